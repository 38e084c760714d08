-- Whether a connection's line was printed.
use Rattle.std.proofs.Common.{◌≡◌, ◌&&◌, ℕ, Bool, true, false, List, Option, Result, Ok, sym, subst}
use Rattle.std.specs.Prelude.{OnOk}
use Rattle.connections.specs.declared.connection.Connection.{Connection}
use Rattle.log_connections.specs.Analysis.{IsTlsBy}
use Rattle.log_connections.specs.declared.analysis.TlsAnalysis.{TlsAnalysis}
use Rattle.log_io.proofs.WriteLemmas.{keeps_itself}
use Rattle.log_io.specs.Output.{AppendsLine, AppendsLineIf}
use Rattle.log_io.specs.declared.output.LineError.{LineError}
use Rattle.log_lines.specs.declared.style.Lines.{Lines}
use Rattle.tlslog.specs.Lines.{LogsConnection, are_connections}

module _ {K : Type 0} where
  pub logs_none : (lines : Lines) (c : Connection (TlsAnalysis K)) (known : Option (List ℕ))
      (b : Bool)
      → IsTlsBy b c.attachment.is_turned c.attachment.transport → (b && are_connections lines) ≡ false
      → LogsConnection lines c known known (Ok tt)
  logs_none lines c known b s e = record {
    is_tls = b;
    tls = s;
    printed = subst (λ x. AppendsLineIf x known known) (sym e) (keeps_itself known);
  }

  pub logs_one : (lines : Lines) (c : Connection (TlsAnalysis K)) (old new : Option (List ℕ))
      (r : Result Unit LineError)
      → IsTlsBy true c.attachment.is_turned c.attachment.transport → are_connections lines ≡ true
      → OnOk r (AppendsLine old new) → LogsConnection lines c old new r
  logs_one lines c old new r s e h = record {
    is_tls = true;
    tls = s;
    printed = subst (λ x. OnOk r (AppendsLineIf x old new)) (sym e) h;
  }
