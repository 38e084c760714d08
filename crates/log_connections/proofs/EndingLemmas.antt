-- What the pending segments of a connection that is over change.
use Rattle.std.proofs.Common.{◌≡◌, ◌∙◌, ap}
use Rattle.connections.specs.declared.connection.Connection.{Connection}
use Rattle.log_connections.specs.Sides.{ChangesAnalysis}
use Rattle.log_connections.specs.declared.analysis.TlsAnalysis.{TlsAnalysis}

module _ {K : Type 0} where
  pub changed_then : (c d e : Connection (TlsAnalysis K)) → ChangesAnalysis c d
      → ChangesAnalysis d e → ChangesAnalysis c e
  changed_then c d e first second = second ∙ ap {A = Connection (TlsAnalysis K)} (λ x. record x {
    from_originator = e.from_originator;
    from_responder = e.from_responder;
    attachment = e.attachment;
  }) first
