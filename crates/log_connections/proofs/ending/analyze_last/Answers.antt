use Rattle.std.proofs.lemmas.Result.{IfOk-weaker}
use Rattle.connections.proofs.TableLemmas.{on_err}
use Rattle.log_connections.proofs.PacketLemmas.{both_err}
use Rattle.log_connections.specs.Sink.{IsCutOff, IsCutShort, at_last, at_pending}
use Rattle.log_connections.proofs.ending.analyze_last.Goals as goal

pub returns-in_err-analyze_pending_at_end-clause-cut : goal.returns-in_err-analyze_pending_at_end-clause-cut
returns-in_err-analyze_pending_at_end-clause-cut g c =
    on_err c.from_residual.result (at_pending c.in_err-analyze_pending_at_end.ensures.refused)

pub returns-clause-analysis : goal.returns-clause-analysis
returns-clause-analysis g c =
    IfOk-weaker c.analyze_last_bytes.result _ _
    (λ _ last. (
      c.analyze_pending_at_end.new.connection,
      c.in_ok-analyze_pending_at_end.ensures.analysis,
      last,
    )) c.analyze_last_bytes.ensures.analysis

pub returns-clause-cut : goal.returns-clause-cut
returns-clause-cut g c =
    let pending = c.analyze_pending_at_end.new.connection in
    both_err c.analyze_last_bytes.result
    (IsCutOff pending c.analyze_last_bytes.new.connection)
    (IsCutOff pending c.analyze_last_bytes.new.connection)
    (IsCutShort c.args.connection.now c.analyze_last_bytes.new.connection)
    (λ cut _. at_last pending c.in_ok-analyze_pending_at_end.ensures.analysis cut)
    c.analyze_last_bytes.ensures.cut c.analyze_last_bytes.ensures.cut
