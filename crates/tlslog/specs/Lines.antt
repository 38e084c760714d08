-- The line that is printed of a connection.
use Rattle.std.specs.Prelude.{◌&&◌, ℕ, Bool, true, false, List, Option, Result, OnOk}
use Rattle.connections.specs.declared.connection.Connection.{Connection}
use Rattle.log_connections.specs.Analysis.{IsTlsBy}
use Rattle.log_connections.specs.declared.analysis.TlsAnalysis.{TlsAnalysis}
use Rattle.log_io.specs.Output.{AppendsLineIf}
use Rattle.log_io.specs.declared.output.LineError.{LineError}
use Rattle.log_lines.specs.declared.style.Lines.{Lines}
use Rattle.log_lines.specs.declared.style.Lines.TheVariants.{Connections, Messages, Certificates}

-- The lines are of connections.
abbrev pub are_connections : Lines → Bool
are_connections (Connections places) = true
are_connections (Messages places) = false
are_connections (Certificates places) = false

module _ {K : Type 0} where
  -- A line was printed if the connection speaks TLS or DTLS, and lines are of connections. Else
  -- nothing was printed.
  pub record LogsConnection (lines : Lines) (c : Connection (TlsAnalysis K))
      (old new : Option (List ℕ)) (r : Result Unit LineError) : Type 0 where
    pub is_tls : Bool
    pub tls : IsTlsBy is_tls c.attachment.is_turned c.attachment.transport
    pub printed : OnOk r (AppendsLineIf (is_tls && are_connections lines) old new)
