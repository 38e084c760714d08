use Rattle.std.proofs.Common.{ap, subst, sym, false}
use Rattle.std.specs.Option.{option_map}
use Rattle.connections.specs.Segment.{five_tuple_of}
use Rattle.log_connections.specs.Log.{KeepsOthers}
use Rattle.log_connections.specs.Sink.{EndsAs}
use Rattle.log_connections.proofs.OtherLemmas.{keeps_ended, keeps_same}
use Rattle.log_connections.proofs.log.Log.take_closed.Goals as goal

pub returns-in_err-taken-clause-others : goal.returns-in_err-taken-clause-others
returns-in_err-taken-clause-others g c =
    keeps_same (five_tuple_of c.args.segment.now) c.args.self.now.connections.live
    c.take_closed.new.self.live (ap (λ t. t.live) c.in_err-taken.ensures.err)

pub returns-clause-ended : goal.returns-clause-ended
returns-clause-ended g c =
    rw c.with_last.ensures.connections
    (record {
      ends = subst (λ o. EndsAs false o (option_map (λ b. b.value) c.with_last.result))
          c.in_ok-taken.ensures.taken c.with_last.ensures.ended;
      left = c.in_ok-taken.ensures.left;
    })

pub returns-clause-others : goal.returns-clause-others
returns-clause-others g c =
    rw c.with_last.ensures.connections
    (subst
    (λ t. KeepsOthers (five_tuple_of c.args.segment.now) c.args.self.now.connections.live t.live)
    (sym c.in_ok-taken.ensures.left)
    (keeps_ended (five_tuple_of c.args.segment.now) c.args.segment.now.time
    c.args.self.now.connections))

pub returns-clause-accounted : goal.returns-clause-accounted
returns-clause-accounted g c =
    rw c.with_last.ensures.connections c.take_closed.ensures.accounted
