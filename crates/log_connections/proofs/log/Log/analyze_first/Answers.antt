use Rattle.connections.specs.FiveTuple.{is_five_tuple}
use Rattle.std.specs.Map.{set_value}
use Rattle.log_connections.proofs.WeightLemmas.{none_belongs, none_weighed, weighed_first}
use Rattle.connections.proofs.MemoryLemmas.{accounted_with}
use Rattle.std.proofs.Common.{◌∙◌}
use Rattle.connections.specs.Segment.{five_tuple_of}
use Rattle.connections.specs.Table.{with_other, TakesSegment, others}
use Rattle.log_connections.proofs.LogLemmas.{segment_closes, segment_received, segment_lent, put_where_true, written_first}
use Rattle.log_connections.proofs.OtherLemmas.{keeps_by_others, keeps_other, keeps_then}
use Rattle.log_connections.specs.Analysis.{IsPrepared}
use Rattle.log_connections.specs.Sides.{IsReady}
use Rattle.log_connections.proofs.log.Log.analyze_first.Goals as goal

pub returns-in_err-accept-clause-others : goal.returns-in_err-accept-clause-others
returns-in_err-accept-clause-others g c =
    keeps_by_others (five_tuple_of c.args.segment.now) c.args.self.now.connections.live
    c.accept.new.self.live c.accept.ensures.others

pub returns-then-not-branch-clause-others : goal.returns-then-not-branch-clause-others
returns-then-not-branch-clause-others g c =
    keeps_by_others (five_tuple_of c.args.segment.now) c.args.self.now.connections.live
    c.accept.new.self.live c.accept.ensures.others

pub returns-in_err-analyze-in-Some-clause-others : goal.returns-in_err-analyze-in-Some-clause-others
returns-in_err-analyze-in-Some-clause-others g c =
    let e = five_tuple_of c.args.segment.now in
    let mid = c.accept.new.self in let its = c.analyze.new.connection in
    rw c.between.ensures
    (keeps_then e c.args.self.now.connections.live mid.live (with_other e its mid).live
    (keeps_by_others e c.args.self.now.connections.live mid.live c.accept.ensures.others)
    (keeps_other e mid its))

pub returns-in_ok-analyze-in-Some-clause-prepared : goal.returns-in_ok-analyze-in-Some-clause-prepared
returns-in_ok-analyze-in-Some-clause-prepared g c =
    rw c.between.ensures
    (segment_received (IsPrepared c.args.self.now.arrivals.tunnels c.args.self.now.kept)
    c.in_ok-accept.field-0 c.args.segment.now c.args.self.now.connections
    c.accept.new.self
    c.in-Some.connection.now c.analyze.new.connection c.if-not-branch.false
    c.in_ok-accept.ensures.put
    c.in_ok-accept.ensures.closed c.in_ok-accept.ensures.attached
    (rw c.between.ensures at c.in-Some.ensures.value)
    c.in_ok-analyze-in-Some.ensures.prepared)

pub returns-in_ok-analyze-in-Some-clause-logged : goal.returns-in_ok-analyze-in-Some-clause-logged
returns-in_ok-analyze-in-Some-clause-logged g c =
    rw c.between.ensures
    (segment_received IsReady c.in_ok-accept.field-0 c.args.segment.now c.args.self.now.connections
    c.accept.new.self
    c.in-Some.connection.now c.analyze.new.connection c.if-not-branch.false
    c.in_ok-accept.ensures.put
    c.in_ok-accept.ensures.closed c.in_ok-accept.ensures.attached
    (rw c.between.ensures at c.in-Some.ensures.value)
    c.in_ok-analyze-in-Some.ensures.analysis)

pub returns-in_ok-analyze-in-Some-clause-closed : goal.returns-in_ok-analyze-in-Some-clause-closed
returns-in_ok-analyze-in-Some-clause-closed g c =
    rw c.between.ensures
    (c.is_closed.ensures
    ∙ segment_closes c.in_ok-accept.field-0 c.args.segment.now c.args.self.now.connections
    c.accept.new.self c.analyze.new.connection c.if-not-branch.false
    c.in_ok-accept.ensures.put)

pub returns-in_ok-analyze-in-Some-clause-others : goal.returns-in_ok-analyze-in-Some-clause-others
returns-in_ok-analyze-in-Some-clause-others g c =
    let e = five_tuple_of c.args.segment.now in
    let mid = c.accept.new.self in let its = c.analyze.new.connection in
    rw c.between.ensures
    (keeps_then e c.args.self.now.connections.live mid.live (with_other e its mid).live
    (keeps_by_others e c.args.self.now.connections.live mid.live c.accept.ensures.others)
    (keeps_other e mid its))

pub returns-in-None-clause-logged : goal.returns-in-None-clause-logged
returns-in-None-clause-logged g c =
    absurd (segment_lent c.in_ok-accept.field-0 c.args.segment.now c.args.self.now.connections
    c.accept.new.self
    c.if-not-branch.false c.in_ok-accept.ensures.put
    (rw c.between.ensures at c.in-None.ensures.value))

pub returns-in-None-clause-belongs : goal.returns-in-None-clause-belongs
returns-in-None-clause-belongs g c =
    absurd (segment_lent c.in_ok-accept.field-0 c.args.segment.now c.args.self.now.connections
    c.accept.new.self
    c.if-not-branch.false c.in_ok-accept.ensures.put
    (rw c.between.ensures at c.in-None.ensures.value))

pub returns-in-None-clause-others : goal.returns-in-None-clause-others
returns-in-None-clause-others g c =
    keeps_by_others (five_tuple_of c.args.segment.now) c.args.self.now.connections.live
    c.accept.new.self.live c.accept.ensures.others

pub returns-in_err-analyze-in-Some-clause-accounted : goal.returns-in_err-analyze-in-Some-clause-accounted
returns-in_err-analyze-in-Some-clause-accounted g c =
    rw c.between.ensures
    (λ h. accounted_with (five_tuple_of c.args.segment.now) c.accept.new.self c.in-Some.connection.now
    c.analyze.new.connection (rw c.between.ensures at c.in-Some.ensures.value) c.analyze.ensures.weight
    (c.accept.ensures.accounted h))

pub returns-in_ok-analyze-in-Some-clause-accounted : goal.returns-in_ok-analyze-in-Some-clause-accounted
returns-in_ok-analyze-in-Some-clause-accounted g c =
    rw c.between.ensures
    (λ h. accounted_with (five_tuple_of c.args.segment.now) c.accept.new.self c.in-Some.connection.now
    c.analyze.new.connection (rw c.between.ensures at c.in-Some.ensures.value) c.analyze.ensures.weight
    (c.accept.ensures.accounted h))

pub returns-then-not-branch-clause-weighed : goal.returns-then-not-branch-clause-weighed
returns-then-not-branch-clause-weighed g c =
    λ due. none_weighed g.K.PieceCollector.most_bytes (five_tuple_of c.args.segment.now) c.accept.new.self
    (none_belongs c.args.segment.now c.args.self.now.connections c.accept.new.self
    c.in_ok-accept.field-0 c.if-not-branch.true c.in_ok-accept.ensures.belongs
    c.in_ok-accept.ensures.put)

pub returns-in_ok-analyze-in-Some-clause-weighed : goal.returns-in_ok-analyze-in-Some-clause-weighed
returns-in_ok-analyze-in-Some-clause-weighed g c =
    let s = c.args.segment.now in let old = c.args.self.now.connections in
    let e = five_tuple_of s in let mid = c.accept.new.self in let its = c.analyze.new.connection in
    let new = record mid { live = set_value (is_five_tuple e) mid.live its } in
    rw c.between.ensures
    (weighed_first g.K.PieceCollector.most_bytes e new its (others e old.live)
    c.changed_weight.result c.is_some-self.result
    (written_first e (TakesSegment s) old.live mid.live
    (put_where_true c.in_ok-accept.field-0 s old mid c.if-not-branch.false
    c.in_ok-accept.ensures.put) its)
    c.changed_weight.ensures c.is_some-self.ensures)

pub returns-in-None-clause-weighed : goal.returns-in-None-clause-weighed
returns-in-None-clause-weighed g c =
    absurd (segment_lent c.in_ok-accept.field-0 c.args.segment.now c.args.self.now.connections
    c.accept.new.self
    c.if-not-branch.false c.in_ok-accept.ensures.put
    (rw c.between.ensures at c.in-None.ensures.value))
