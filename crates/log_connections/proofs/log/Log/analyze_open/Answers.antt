use Rattle.log_connections.proofs.WeightLemmas.{weighed_first}
use Rattle.connections.proofs.MemoryLemmas.{accounted_with}
use Rattle.std.proofs.Common.{◌≡◌, sym, true, false, ◌∙◌}
use Rattle.connections.proofs.TableLemmas.{written_promoted}
use Rattle.connections.specs.Segment.{five_tuple_of}
use Rattle.connections.specs.Table.{others, promoting, with_other}
use Rattle.log_connections.proofs.LogLemmas.{closes, received_in_place, lent_unchanged, let_in_judged, none_judged, acknowledging_judged}
use Rattle.log_connections.proofs.OtherLemmas.{keeps_other, keeps_promoted}
use Rattle.log_connections.specs.Analysis.{IsPrepared}
use Rattle.log_connections.specs.Sides.{IsReady}
use Rattle.log_connections.proofs.log.Log.analyze_open.Goals as goal
use Rattle.log_connections.proofs.log.Log.analyze_open.Goals.{then-has_data, else-has_data}

pub returns-in_default-clause-judged : goal.returns-in_default-clause-judged
returns-in_default-clause-judged g c =
    none_judged c.args.segment.now c.args.self.now.connections
    (rw c.between-five_tuple.ensures at c.in_default.ensures.value)

pub returns-in_err-verdict-clause-others : goal.returns-in_err-verdict-clause-others
returns-in_err-verdict-clause-others g c =
    rw c.between-five_tuple.ensures
    (keeps_other (five_tuple_of c.args.segment.now) c.args.self.now.connections
    c.accept_or_judge.new.self)

pub returns-in-Some-2-clause-logged : goal.returns-in-Some-2-clause-logged
returns-in-Some-2-clause-logged g c =
    lent_unchanged c.between-five_tuple.result c.args.self.now.connections c.in-Some.connection.now
    c.accept_or_judge.new.self
    c.in-Some.ensures.value (rw c.in-Some-2.is at c.in_ok-verdict.ensures.stays)

pub returns-in-Some-2-clause-judged : goal.returns-in-Some-2-clause-judged
returns-in-Some-2-clause-judged g c =
    acknowledging_judged c.args.segment.now c.args.self.now.connections c.in-Some.connection.now
    c.in-Some-2.verdict (rw c.between-five_tuple.ensures at c.in-Some.ensures.value)
    (rw c.in-Some-2.is at c.in_ok-verdict.ensures.judged)
    (rw c.in-Some-2.is at c.in_ok-verdict.ensures.let_in)

pub returns-in-Some-2-clause-others : goal.returns-in-Some-2-clause-others
returns-in-Some-2-clause-others g c =
    rw c.between-five_tuple.ensures
    (keeps_other (five_tuple_of c.args.segment.now) c.args.self.now.connections
    c.accept_or_judge.new.self)

pub returns-in_err-analyze-clause-others : goal.returns-in_err-analyze-clause-others
returns-in_err-analyze-clause-others g c =
    rw c.between-five_tuple.ensures
    (keeps_other (five_tuple_of c.args.segment.now) c.args.self.now.connections
    c.analyze.new.connection)

pub returns-clause-prepared : goal.returns-clause-prepared
returns-clause-prepared g c =
    rw (c.promote.ensures.promoted, c.between-five_tuple.ensures)
    (received_in_place (IsPrepared c.args.self.now.arrivals.tunnels c.args.self.now.kept)
    c.args.segment.now c.args.self.now.connections c.in-Some.connection.now
    c.accept_or_judge.new.self
    c.analyze.new.connection (rw c.between-five_tuple.ensures at c.in-Some.ensures.value)
    (rw c.in_default-2.is at c.in_ok-verdict.ensures.taken).1 c.in_ok-analyze.ensures.prepared)

pub returns-clause-logged : goal.returns-clause-logged
returns-clause-logged g c =
    rw (c.promote.ensures.promoted, c.between-five_tuple.ensures)
    (received_in_place IsReady c.args.segment.now c.args.self.now.connections c.in-Some.connection.now
    c.accept_or_judge.new.self
    c.analyze.new.connection (rw c.between-five_tuple.ensures at c.in-Some.ensures.value)
    (rw c.in_default-2.is at c.in_ok-verdict.ensures.taken).1 c.in_ok-analyze.ensures.analysis)

pub returns-clause-judged : goal.returns-clause-judged
returns-clause-judged g c =
    let_in_judged c.args.segment.now c.args.self.now.connections c.in-Some.connection.now
    (rw c.between-five_tuple.ensures at c.in-Some.ensures.value)
    (rw c.in_default-2.is at c.in_ok-verdict.ensures.let_in)

pub returns-clause-closed : goal.returns-clause-closed
returns-clause-closed g c =
    let s = c.args.segment.now in let old = c.args.self.now.connections in
    let its = c.analyze.new.connection in
    rw (c.promote.ensures.promoted, c.between-five_tuple.ensures)
    (c.is_closed-is_closed.ensures
    ∙ closes s (promoting (five_tuple_of s) (with_other (five_tuple_of s) its old)) its
    (others (five_tuple_of s) old.live)
    (written_promoted (five_tuple_of s) old.live c.in-Some.connection.now its
    (sym (rw c.between-five_tuple.ensures at c.in-Some.ensures.value))))

pub returns-clause-others : goal.returns-clause-others
returns-clause-others g c =
    rw (c.promote.ensures.promoted, c.between-five_tuple.ensures)
    (keeps_promoted (five_tuple_of c.args.segment.now) c.args.self.now.connections
    c.in-Some.connection.now c.analyze.new.connection
    (rw c.between-five_tuple.ensures at c.in-Some.ensures.value))

pub returns-in_err-verdict-clause-accounted : goal.returns-in_err-verdict-clause-accounted
returns-in_err-verdict-clause-accounted g c =
    rw c.between-five_tuple.ensures
    (accounted_with (five_tuple_of c.args.segment.now) c.args.self.now.connections c.in-Some.connection.now
    c.accept_or_judge.new.self (rw c.between-five_tuple.ensures at c.in-Some.ensures.value)
    c.accept_or_judge.ensures.weight)

pub returns-in-Some-2-clause-accounted : goal.returns-in-Some-2-clause-accounted
returns-in-Some-2-clause-accounted g c =
    rw c.between-five_tuple.ensures
    (accounted_with (five_tuple_of c.args.segment.now) c.args.self.now.connections c.in-Some.connection.now
    c.accept_or_judge.new.self (rw c.between-five_tuple.ensures at c.in-Some.ensures.value)
    c.accept_or_judge.ensures.weight)

pub returns-in_err-analyze-clause-accounted : goal.returns-in_err-analyze-clause-accounted
returns-in_err-analyze-clause-accounted g c =
    rw c.between-five_tuple.ensures
    (accounted_with (five_tuple_of c.args.segment.now) c.args.self.now.connections c.in-Some.connection.now
    c.analyze.new.connection (rw c.between-five_tuple.ensures at c.in-Some.ensures.value)
    (c.analyze.ensures.weight ∙ c.accept_or_judge.ensures.weight))

pub returns-clause-accounted : goal.returns-clause-accounted
returns-clause-accounted g c =
    λ h. c.promote.ensures.accounted
    (rw c.between-five_tuple.ensures
    (accounted_with (five_tuple_of c.args.segment.now) c.args.self.now.connections c.in-Some.connection.now
    c.analyze.new.connection (rw c.between-five_tuple.ensures at c.in-Some.ensures.value)
    (c.analyze.ensures.weight ∙ c.accept_or_judge.ensures.weight) h))

pub returns-clause-weighed : goal.returns-clause-weighed
returns-clause-weighed g c = λ has due.
    let s = c.args.segment.now in let old = c.args.self.now.connections in
    let its = c.analyze.new.connection in let e = five_tuple_of s in
    let new = promoting e (with_other e its old) in
    elim c.if-has_data.branch [
      | then-has_data w ↦
          rw (c.promote.ensures.promoted, c.between-five_tuple.ensures)
          (weighed_first g.K.PieceCollector.most_bytes e new its (others e old.live)
          w.changed_weight.result w.is_some-self.result
          (written_promoted e old.live c.in-Some.connection.now its
          (sym (rw c.between-five_tuple.ensures at c.in-Some.ensures.value)))
          w.changed_weight.ensures w.is_some-self.ensures (sym w.self-is ∙ due))
      | else-has_data w ↦
          let wrong : true ≡ false = sym has ∙ sym c.has_data.ensures ∙ w.if-has_data.false in cc
    ]
