use Rattle.std.proofs.Common.{◌∙◌}
use Rattle.connections.proofs.MemoryLemmas.{accounted_written}
use Rattle.std.proofs.lemmas.Result.{IfOk-weaker}
use Rattle.log_connections.proofs.LogLemmas.{pending_received}
use Rattle.log_connections.proofs.OtherLemmas.{keeps_first}
use Rattle.log_connections.specs.Analysis.{IsPrepared}
use Rattle.log_connections.specs.Sides.{IsReady}
use Rattle.log_connections.proofs.log.Log.analyze_pending.Goals as goal

pub returns-in_err-accept_pending-clause-others : goal.returns-in_err-accept_pending-clause-others
returns-in_err-accept_pending-clause-others g c =
    keeps_first c.args.five_tuple.now c.args.self.now.connections c.in-Some.connection.now
    c.accept_pending.new.self c.in-Some.ensures.value

pub returns-clause-prepared : goal.returns-clause-prepared
returns-clause-prepared g c =
    IfOk-weaker c.analyze.result _ _
    (λ _ receives. pending_received (IsPrepared c.args.self.now.arrivals.tunnels c.args.self.now.kept)
    c.args.five_tuple.now c.args.kept.now c.args.self.now.connections
    c.in-Some.connection.now c.accept_pending.new.self c.analyze.new.connection c.segment.result
    c.in-Some.ensures.value c.in_ok-accept_pending.ensures.taken c.segment.ensures.header
    c.segment.ensures.data receives) c.analyze.ensures.prepared

pub returns-clause-analysis : goal.returns-clause-analysis
returns-clause-analysis g c =
    IfOk-weaker c.analyze.result _ _
    (λ _ receives. pending_received IsReady c.args.five_tuple.now c.args.kept.now c.args.self.now.connections
    c.in-Some.connection.now c.accept_pending.new.self c.analyze.new.connection c.segment.result
    c.in-Some.ensures.value c.in_ok-accept_pending.ensures.taken c.segment.ensures.header
    c.segment.ensures.data receives) c.analyze.ensures.analysis

pub returns-clause-others : goal.returns-clause-others
returns-clause-others g c =
    keeps_first c.args.five_tuple.now c.args.self.now.connections c.in-Some.connection.now
    c.analyze.new.connection c.in-Some.ensures.value

pub returns-in_err-accept_pending-clause-accounted : goal.returns-in_err-accept_pending-clause-accounted
returns-in_err-accept_pending-clause-accounted g c =
    accounted_written c.args.five_tuple.now c.args.self.now.connections c.in-Some.connection.now
    c.accept_pending.new.self c.in-Some.ensures.value c.accept_pending.ensures.weight

pub returns-clause-accounted : goal.returns-clause-accounted
returns-clause-accounted g c =
    accounted_written c.args.five_tuple.now c.args.self.now.connections c.in-Some.connection.now
    c.analyze.new.connection c.in-Some.ensures.value
    (c.analyze.ensures.weight ∙ c.accept_pending.ensures.weight)
