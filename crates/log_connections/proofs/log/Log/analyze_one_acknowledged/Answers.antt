use Rattle.std.proofs.Common.{ap, ◌∙◌, sym, subst, Some}
use Rattle.connections.specs.Connection.{without_pending}
use Rattle.connections.specs.Segment.{five_tuple_of}
use Rattle.connections.specs.Table.{at}
use Rattle.log_connections.specs.Log.{AnalyzesPending, IsReady, KeepsOthers, had, none, taken}
use Rattle.log_connections.proofs.OtherLemmas.{keeps_changed, keeps_then}
use Rattle.log_connections.proofs.log.Log.analyze_one_acknowledged.Goals as goal

pub returns-in_err-analyze_pending-in-Some-Taken-clause-others :
    goal.returns-in_err-analyze_pending-in-Some-Taken-clause-others
returns-in_err-analyze_pending-in-Some-Taken-clause-others g c =
    let s = c.args.segment.now in let old = c.args.self.now.connections in
    let e = five_tuple_of s in
    keeps_then e old.live c.take_pending.new.self.live c.analyze_pending.new.self.connections.live
    (subst (λ t. KeepsOthers e old.live t.live) (sym c.take_pending.ensures.left)
    (keeps_changed e (without_pending s) (at e old.live) old))
    (rw c.between.ensures at c.analyze_pending.ensures.others)

pub returns-in_ok-analyze_pending-in-Some-Taken-clause-analysis :
    goal.returns-in_ok-analyze_pending-in-Some-Taken-clause-analysis
returns-in_ok-analyze_pending-in-Some-Taken-clause-analysis g c =
    let s = c.args.segment.now in
    taken c.in-Some-Taken.kept
    (sym c.take_pending.ensures.outcome ∙ c.in-Some-Taken.is ∙ ap Some c.in-Some-Taken.field-0-is)
    (subst
    (λ t. AnalyzesPending IsReady (five_tuple_of s) c.in-Some-Taken.kept t
    c.analyze_pending.new.self.connections) c.take_pending.ensures.left
    (rw c.between.ensures at c.in_ok-analyze_pending-in-Some-Taken.ensures.analysis))

pub returns-in_ok-analyze_pending-in-Some-Taken-clause-others :
    goal.returns-in_ok-analyze_pending-in-Some-Taken-clause-others
returns-in_ok-analyze_pending-in-Some-Taken-clause-others g c =
    let s = c.args.segment.now in let old = c.args.self.now.connections in
    let e = five_tuple_of s in
    keeps_then e old.live c.take_pending.new.self.live c.analyze_pending.new.self.connections.live
    (subst (λ t. KeepsOthers e old.live t.live) (sym c.take_pending.ensures.left)
    (keeps_changed e (without_pending s) (at e old.live) old))
    (rw c.between.ensures at c.analyze_pending.ensures.others)

pub returns-in-Some-Had-clause-analysis : goal.returns-in-Some-Had-clause-analysis
returns-in-Some-Had-clause-analysis g c =
    had
    (sym c.take_pending.ensures.outcome ∙ c.in-Some-Had.is ∙ ap Some c.in-Some-Had.field-0-is)
    c.take_pending.ensures.left

pub returns-in-Some-Had-clause-others : goal.returns-in-Some-Had-clause-others
returns-in-Some-Had-clause-others g c =
    let s = c.args.segment.now in let old = c.args.self.now.connections in
    let e = five_tuple_of s in
    subst (λ t. KeepsOthers e old.live t.live) (sym c.take_pending.ensures.left)
    (keeps_changed e (without_pending s) (at e old.live) old)

pub returns-in-None-clause-analysis : goal.returns-in-None-clause-analysis
returns-in-None-clause-analysis g c =
    none (sym c.take_pending.ensures.outcome ∙ c.in-None.is) c.take_pending.ensures.left

pub returns-in-None-clause-others : goal.returns-in-None-clause-others
returns-in-None-clause-others g c =
    let s = c.args.segment.now in let old = c.args.self.now.connections in
    let e = five_tuple_of s in
    subst (λ t. KeepsOthers e old.live t.live) (sym c.take_pending.ensures.left)
    (keeps_changed e (without_pending s) (at e old.live) old)

pub returns-in_err-analyze_pending-in-Some-Taken-clause-accounted : goal.returns-in_err-analyze_pending-in-Some-Taken-clause-accounted
returns-in_err-analyze_pending-in-Some-Taken-clause-accounted g c =
    λ h. c.analyze_pending.ensures.accounted (c.take_pending.ensures.accounted h)

pub returns-in_ok-analyze_pending-in-Some-Taken-clause-accounted : goal.returns-in_ok-analyze_pending-in-Some-Taken-clause-accounted
returns-in_ok-analyze_pending-in-Some-Taken-clause-accounted g c =
    λ h. c.analyze_pending.ensures.accounted (c.take_pending.ensures.accounted h)
