use Rattle.std.proofs.Common.{rules, subst, sym}
use Rattle.tls_stream.specs.Readers.{reader_of}
use Rattle.tls_stream.specs.SideReaders.{front_of}
use Rattle.tls_analyzer.specs.Analyzers.{IsNext, IsTaken}
use Rattle.tls_analyzer.proofs.FollowLemmas.{next_clear, on_end, on_next, on_none, on_over}
use Rattle.tls_analyzer.proofs.analyzer.Analyzer.follow.Goals as goal
use Rattle.tls_analyzer.proofs.analyzer.Analyzer.follow.Goals.{
  then-is_over-2-via-then-is_over-2,
  then-is_over-2-via-else-is_over-2+in_ok-take_next+then-not-branch,
}

pub loop-preserved : goal.loop-preserved
loop-preserved g c =
    on_next c.args.self.now c.loop.self c.take_next.new.self c.args.side c.args.piece.now
    c.loop.counter
    c.loop.invariant (search rules)
    (subst (λ b. IsTaken (front_of (reader_of c.loop.self.conversation_state.reader c.args.side))
    c.loop.self
    c.args.side b
    c.take_next.new.self)
    (search rules) c.in_ok-take_next.ensures.taken)
    c.in_ok-take_next.ensures.ready

pub returns-after-loop : goal.returns-after-loop
returns-after-loop g c =
    next_clear c.args.self.now c.loop.self c.args.side c.args.piece.now (search rules)
    (on_end c.args.self.now c.loop.self c.args.side c.args.piece.now c.loop.counter c.loop.invariant
    (search rules))

pub returns-then-is_over-2 : goal.returns-then-is_over-2
returns-then-is_over-2 g c =
    elim c.then-is_over-2.branch [
      | then-is_over-2-via-then-is_over-2 w ↦
          subst (λ u. IsNext c.args.self.now c.args.side c.args.piece.now u) (sym
          w.self-is)
          (next_clear c.args.self.now c.loop.self c.args.side c.args.piece.now (search rules)
          (on_over c.args.self.now c.loop.self c.args.side c.args.piece.now c.loop.counter
          c.loop.invariant (search
          rules)))
      | then-is_over-2-via-else-is_over-2+in_ok-take_next+then-not-branch w ↦
          subst (λ u. IsNext c.args.self.now c.args.side c.args.piece.now u) (sym w.self-is)
          (next_clear c.args.self.now w.take_next.new.self c.args.side c.args.piece.now
          (search rules)
          (on_none c.args.self.now c.loop.self w.take_next.new.self c.args.side c.args.piece.now
          c.loop.counter
          c.loop.invariant (search rules)
          (subst (λ b. IsTaken
          (front_of (reader_of c.loop.self.conversation_state.reader c.args.side))
          c.loop.self c.args.side b
          w.take_next.new.self)
          (search rules) w.in_ok-take_next.ensures.taken)))
    ]
