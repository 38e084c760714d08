use Rattle.std.specs.Option.{option_map}
use Rattle.connections.specs.declared.connection.Connection.{Connection}
use Rattle.log_connections.specs.declared.analysis.TlsAnalysis.{TlsAnalysis}
use Rattle.connections.specs.Table.{belongs}
use Rattle.log_connections.specs.Log.{IsWeighedUnless, verdict_in}
use Rattle.log_connections.proofs.WeightLemmas.{judged_counts, judged_weighs, let_in_counts, let_in_weighs, none_counts, none_open_weighs, stays_after, stays_closed}
use Rattle.std.proofs.Common.{ap, refl, sym, ◌∙◌, Some, None, true}
use Rattle.std.specs.Prelude.{is_some}
use Rattle.std.proofs.lemmas.Result.{IfOk-weaker}
use Rattle.connections.specs.Segment.{five_tuple_of}
use Rattle.log_connections.proofs.LogLemmas.{accepts_open, accepts_acknowledging, refuses_open, stays_open, takes_in}
use Rattle.log_connections.proofs.PacketLemmas.{given}
use Rattle.log_connections.proofs.OtherLemmas.{keeps_then}
use Rattle.log_connections.proofs.log.Log.accept_segment.Goals as goal

pub returns-in-Received-false-clause-accepted : goal.returns-in-Received-false-clause-accepted
returns-in-Received-false-clause-accepted g c =
    let s = c.args.segment.now in let mid = c.analyze_open.new.self.connections in
    accepts_open s c.args.self.now.connections mid mid _
    (rw c.in-Received-false.is at c.in_ok-analyze_open.ensures.judged)
    (rw c.in-Received-false.is at c.in_ok-analyze_open.ensures.logged)
    (stays_open s mid mid _ (sym (rw c.in-Received-false.is at c.in_ok-analyze_open.ensures.closed)
    ∙ c.in-Received-false.field-0-test) refl refl)

pub returns-in_err-analyze_open-clause-refused : goal.returns-in_err-analyze_open-clause-refused
returns-in_err-analyze_open-clause-refused g c =
    given c.from_residual.result _ _ c.from_residual.ensures.1
    (refuses_open c.args.segment.now c.args.self.now.connections
    c.analyze_open.new.self.connections None c.in_err-analyze_open.ensures.refused refl)

pub returns-in_err-take_closed-in-Received-true-clause-refused : goal.returns-in_err-take_closed-in-Received-true-clause-refused
returns-in_err-take_closed-in-Received-true-clause-refused g c =
    given c.from_residual-in_err-take_closed-in-Received-true.result _ _
    c.from_residual-in_err-take_closed-in-Received-true.ensures.1
    (refuses_open c.args.segment.now c.args.self.now.connections
    c.take_closed.new.self.connections None
    (rw c.in-Received-true.is at c.in_ok-analyze_open.ensures.judged) refl)

pub returns-in_ok-take_closed-in-Received-true-clause-accepted : goal.returns-in_ok-take_closed-in-Received-true-clause-accepted
returns-in_ok-take_closed-in-Received-true-clause-accepted g c =
    accepts_open c.args.segment.now c.args.self.now.connections
    c.analyze_open.new.self.connections c.take_closed.new.self.connections _
    (rw c.in-Received-true.is at c.in_ok-analyze_open.ensures.judged)
    (rw c.in-Received-true.is at c.in_ok-analyze_open.ensures.logged)
    c.in_ok-take_closed-in-Received-true.ensures.ended

pub returns-in_ok-take_closed-in-Received-true-clause-others : goal.returns-in_ok-take_closed-in-Received-true-clause-others
returns-in_ok-take_closed-in-Received-true-clause-others g c =
    keeps_then (five_tuple_of c.args.segment.now) c.args.self.now.connections.live
    c.analyze_open.new.self.connections.live c.take_closed.new.self.connections.live
    c.analyze_open.ensures.others c.take_closed.ensures.others

pub returns-in_ok-end_or_count-in-NoneOpen-clause-accepted : goal.returns-in_ok-end_or_count-in-NoneOpen-clause-accepted
returns-in_ok-end_or_count-in-NoneOpen-clause-accepted g c =
    let mid = c.analyze_open.new.self.connections in
    accepts_acknowledging c.args.segment.now c.args.self.now.connections mid
    c.end_or_count.new.self.connections None _
    (rw c.in-NoneOpen.is at c.in_ok-analyze_open.ensures.judged)
    (rw c.in-NoneOpen.is at c.in_ok-analyze_open.ensures.logged)
    (takes_in c.in_ok-analysis-in-NoneOpen.analysis c.args.segment.now mid
    c.analyze_first.new.self.connections c.end_or_count.new.self.connections _
    c.in_ok-analysis-in-NoneOpen.ensures.belongs c.in_ok-analysis-in-NoneOpen.ensures.logged
    c.in_ok-analysis-in-NoneOpen.ensures.closed c.in_ok-end_or_count-in-NoneOpen.ensures.ended)

pub returns-in_err-analysis-in-NoneOpen-clause-others : goal.returns-in_err-analysis-in-NoneOpen-clause-others
returns-in_err-analysis-in-NoneOpen-clause-others g c =
    keeps_then (five_tuple_of c.args.segment.now) c.args.self.now.connections.live
    c.analyze_open.new.self.connections.live c.analyze_first.new.self.connections.live
    c.analyze_open.ensures.others c.analyze_first.ensures.others

pub returns-in-Judged-clause-accepted : goal.returns-in-Judged-clause-accepted
returns-in-Judged-clause-accepted g c =
    IfOk-weaker c.accept_by.result _ _
    (λ over accepts. accepts_acknowledging c.args.segment.now c.args.self.now.connections
    c.analyze_open.new.self.connections c.accept_by.new.self.connections
    (Some c.in-Judged.verdict) _
    (rw c.in-Judged.is at c.in_ok-analyze_open.ensures.judged).0
    (rw c.in-Judged.is at c.in_ok-analyze_open.ensures.logged) accepts)
    c.accept_by.ensures.accepted

pub returns-in-Judged-clause-others : goal.returns-in-Judged-clause-others
returns-in-Judged-clause-others g c =
    keeps_then (five_tuple_of c.args.segment.now) c.args.self.now.connections.live
    c.analyze_open.new.self.connections.live c.accept_by.new.self.connections.live
    c.analyze_open.ensures.others c.accept_by.ensures.others

pub returns-in-Received-false-clause-weighed : goal.returns-in-Received-false-clause-weighed
returns-in-Received-false-clause-weighed g c =
    let s = c.args.segment.now in let mid = c.analyze_open.new.self in
    let_in_weighs {C = Connection (TlsAnalysis g.row.K.Denot)} None
    (IsWeighedUnless g.K.PieceCollector.most_bytes mid.is_unsettled (five_tuple_of s) mid.connections)
    (verdict_in s c.args.self.now.connections) s
    (rw c.in-Received-false.is at c.in_ok-analyze_open.ensures.judged)
    (rw c.in-Received-false.is at c.in_ok-analyze_open.ensures.weighed)

pub returns-in_ok-take_closed-in-Received-true-clause-weighed : goal.returns-in_ok-take_closed-in-Received-true-clause-weighed
returns-in_ok-take_closed-in-Received-true-clause-weighed g c =
    let s = c.args.segment.now in let mid = c.analyze_open.new.self in
    let new = c.take_closed.new.self in let e = five_tuple_of s in
    let over = option_map (λ b. b.value) c.in_ok-take_closed-in-Received-true.field-0 in
    rw c.take_closed.ensures.unsettled
    (let_in_weighs over (IsWeighedUnless g.K.PieceCollector.most_bytes mid.is_unsettled e new.connections)
    (verdict_in s c.args.self.now.connections) s
    (rw c.in-Received-true.is at c.in_ok-analyze_open.ensures.judged)
    (λ some. stays_closed (IsWeighedUnless g.K.PieceCollector.most_bytes mid.is_unsettled e) s mid.connections
    new.connections over c.in_ok-take_closed-in-Received-true.ensures.ended
    ((rw c.in-Received-true.is at c.in_ok-analyze_open.ensures.weighed) some)))

pub returns-in_ok-end_or_count-in-NoneOpen-clause-weighed : goal.returns-in_ok-end_or_count-in-NoneOpen-clause-weighed
returns-in_ok-end_or_count-in-NoneOpen-clause-weighed g c =
    let s = c.args.segment.now in let mid = c.analyze_first.new.self in
    let new = c.end_or_count.new.self in let e = five_tuple_of s in
    let over = option_map (λ b. b.value) c.in_ok-end_or_count-in-NoneOpen.field-0 in
    rw c.end_or_count.ensures.unsettled
    (none_open_weighs over (IsWeighedUnless g.K.PieceCollector.most_bytes mid.is_unsettled e new.connections)
    (verdict_in s c.args.self.now.connections) s
    (rw c.in-NoneOpen.is at c.in_ok-analyze_open.ensures.judged)
    (stays_after (IsWeighedUnless g.K.PieceCollector.most_bytes mid.is_unsettled e) c.in_ok-analysis-in-NoneOpen.analysis s
    mid.connections new.connections over c.in_ok-end_or_count-in-NoneOpen.ensures.ended
    c.in_ok-analysis-in-NoneOpen.ensures.weighed))

pub returns-in-Judged-clause-weighed : goal.returns-in-Judged-clause-weighed
returns-in-Judged-clause-weighed g c =
    let s = c.args.segment.now in let new = c.accept_by.new.self in
    IfOk-weaker c.accept_by.result _ _
    (λ over weighed. judged_weighs (option_map (λ b. b.value) over)
    (IsWeighedUnless g.K.PieceCollector.most_bytes new.is_unsettled (five_tuple_of s) new.connections)
    (verdict_in s c.args.self.now.connections) c.in-Judged.verdict s
    (rw c.in-Judged.is at c.in_ok-analyze_open.ensures.judged).0
    (rw c.in-Judged.is at c.in_ok-analyze_open.ensures.judged).1 weighed)
    c.accept_by.ensures.weighed

pub returns-in_err-take_closed-in-Received-true-clause-accounted : goal.returns-in_err-take_closed-in-Received-true-clause-accounted
returns-in_err-take_closed-in-Received-true-clause-accounted g c =
    λ h. c.take_closed.ensures.accounted (c.analyze_open.ensures.accounted h)

pub returns-in_ok-take_closed-in-Received-true-clause-accounted : goal.returns-in_ok-take_closed-in-Received-true-clause-accounted
returns-in_ok-take_closed-in-Received-true-clause-accounted g c =
    λ h. c.take_closed.ensures.accounted (c.analyze_open.ensures.accounted h)

pub returns-in_err-analysis-in-NoneOpen-clause-accounted : goal.returns-in_err-analysis-in-NoneOpen-clause-accounted
returns-in_err-analysis-in-NoneOpen-clause-accounted g c =
    λ h. c.analyze_first.ensures.accounted (c.analyze_open.ensures.accounted h)

pub returns-in_ok-end_or_count-in-NoneOpen-clause-accounted : goal.returns-in_ok-end_or_count-in-NoneOpen-clause-accounted
returns-in_ok-end_or_count-in-NoneOpen-clause-accounted g c =
    λ h. c.end_or_count.ensures.accounted
    (c.analyze_first.ensures.accounted (c.analyze_open.ensures.accounted h))

pub returns-in_err-end_or_count-in-NoneOpen-clause-accounted : goal.returns-in_err-end_or_count-in-NoneOpen-clause-accounted
returns-in_err-end_or_count-in-NoneOpen-clause-accounted g c =
    λ h. c.end_or_count.ensures.accounted
    (c.analyze_first.ensures.accounted (c.analyze_open.ensures.accounted h))

pub returns-in-Judged-clause-accounted : goal.returns-in-Judged-clause-accounted
returns-in-Judged-clause-accounted g c =
    λ h. c.accept_by.ensures.accounted (c.analyze_open.ensures.accounted h)

pub returns-in_err-analyze_open-clause-counted : goal.returns-in_err-analyze_open-clause-counted
returns-in_err-analyze_open-clause-counted g c =
    let_in_counts (verdict_in c.args.segment.now c.args.self.now.connections)
    (belongs c.args.segment.now c.args.self.now.connections) c.args.segment.now
    c.args.self.now.arrivals c.analyze_open.new.self.arrivals c.in_err-analyze_open.ensures.refused
    c.analyze_open.ensures.arrivals

pub returns-in-Received-false-clause-counted : goal.returns-in-Received-false-clause-counted
returns-in-Received-false-clause-counted g c =
    let_in_counts (verdict_in c.args.segment.now c.args.self.now.connections)
    (belongs c.args.segment.now c.args.self.now.connections) c.args.segment.now
    c.args.self.now.arrivals c.analyze_open.new.self.arrivals
    (rw c.in-Received-false.is at c.in_ok-analyze_open.ensures.judged)
    c.analyze_open.ensures.arrivals

pub returns-in_err-take_closed-in-Received-true-clause-counted : goal.returns-in_err-take_closed-in-Received-true-clause-counted
returns-in_err-take_closed-in-Received-true-clause-counted g c =
    let_in_counts (verdict_in c.args.segment.now c.args.self.now.connections)
    (belongs c.args.segment.now c.args.self.now.connections) c.args.segment.now
    c.args.self.now.arrivals c.take_closed.new.self.arrivals
    (rw c.in-Received-true.is at c.in_ok-analyze_open.ensures.judged)
    (c.take_closed.ensures.arrivals ∙ c.analyze_open.ensures.arrivals)

pub returns-in_ok-take_closed-in-Received-true-clause-counted : goal.returns-in_ok-take_closed-in-Received-true-clause-counted
returns-in_ok-take_closed-in-Received-true-clause-counted g c =
    let_in_counts (verdict_in c.args.segment.now c.args.self.now.connections)
    (belongs c.args.segment.now c.args.self.now.connections) c.args.segment.now
    c.args.self.now.arrivals c.take_closed.new.self.arrivals
    (rw c.in-Received-true.is at c.in_ok-analyze_open.ensures.judged)
    (c.take_closed.ensures.arrivals ∙ c.analyze_open.ensures.arrivals)

pub returns-in-Judged-clause-counted : goal.returns-in-Judged-clause-counted
returns-in-Judged-clause-counted g c =
    judged_counts (verdict_in c.args.segment.now c.args.self.now.connections) c.in-Judged.verdict
    (belongs c.args.segment.now c.args.self.now.connections) c.args.segment.now
    c.args.self.now.arrivals c.analyze_open.new.self.arrivals c.accept_by.new.self.arrivals
    (rw c.in-Judged.is at c.in_ok-analyze_open.ensures.judged).0 c.analyze_open.ensures.arrivals
    c.accept_by.ensures.counted

pub returns-in_err-analysis-in-NoneOpen-clause-counted : goal.returns-in_err-analysis-in-NoneOpen-clause-counted
returns-in_err-analysis-in-NoneOpen-clause-counted g c =
    let s = c.args.segment.now in
    none_counts (verdict_in s c.args.self.now.connections)
    (belongs s c.args.self.now.connections) true s
    c.args.self.now.arrivals c.analyze_first.new.self.arrivals c.analyze_first.new.self.arrivals
    (rw c.in-NoneOpen.is at c.in_ok-analyze_open.ensures.judged)
    (sym c.in_err-analysis-in-NoneOpen.ensures.refused
    ∙ ap (belongs s) (rw c.in-NoneOpen.is at c.in_ok-analyze_open.ensures.logged))
    (c.analyze_first.ensures.arrivals ∙ c.analyze_open.ensures.arrivals) refl

pub returns-in_err-end_or_count-in-NoneOpen-clause-counted : goal.returns-in_err-end_or_count-in-NoneOpen-clause-counted
returns-in_err-end_or_count-in-NoneOpen-clause-counted g c =
    let s = c.args.segment.now in
    none_counts (verdict_in s c.args.self.now.connections)
    (belongs s c.args.self.now.connections) (is_some c.in_ok-analysis-in-NoneOpen.analysis) s
    c.args.self.now.arrivals c.analyze_first.new.self.arrivals c.end_or_count.new.self.arrivals
    (rw c.in-NoneOpen.is at c.in_ok-analyze_open.ensures.judged)
    (c.in_ok-analysis-in-NoneOpen.ensures.belongs
    ∙ ap (belongs s) (rw c.in-NoneOpen.is at c.in_ok-analyze_open.ensures.logged))
    (c.analyze_first.ensures.arrivals ∙ c.analyze_open.ensures.arrivals)
    c.end_or_count.ensures.counted

pub returns-in_ok-end_or_count-in-NoneOpen-clause-counted : goal.returns-in_ok-end_or_count-in-NoneOpen-clause-counted
returns-in_ok-end_or_count-in-NoneOpen-clause-counted g c =
    let s = c.args.segment.now in
    none_counts (verdict_in s c.args.self.now.connections)
    (belongs s c.args.self.now.connections) (is_some c.in_ok-analysis-in-NoneOpen.analysis) s
    c.args.self.now.arrivals c.analyze_first.new.self.arrivals c.end_or_count.new.self.arrivals
    (rw c.in-NoneOpen.is at c.in_ok-analyze_open.ensures.judged)
    (c.in_ok-analysis-in-NoneOpen.ensures.belongs
    ∙ ap (belongs s) (rw c.in-NoneOpen.is at c.in_ok-analyze_open.ensures.logged))
    (c.analyze_first.ensures.arrivals ∙ c.analyze_open.ensures.arrivals)
    c.end_or_count.ensures.counted
