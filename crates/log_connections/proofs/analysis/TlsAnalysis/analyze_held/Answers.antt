use Rattle.std.proofs.Common.{subst}
use Rattle.tls_summary.specs.HandshakeSummary.{view_summary}
use Rattle.log_connections.specs.Analysis.{AnalyzesHeldIn}
use Rattle.log_connections.proofs.DatagramLemmas.{received_datagram}
use Rattle.log_connections.proofs.analysis.TlsAnalysis.analyze_held.Goals as goal

pub returns : goal.returns
returns g c =
    subst
    (λ d. AnalyzesHeldIn c.args.self.now.transport c.count_datagram.new.self.transport c.args.side d
    c.args.datagram.now c.args.self.now c.count_datagram.new.self)
    c.direction-direction.ensures
    (received_datagram c.analyze_with-is_received.result _ c.args.side c.direction-direction.result
    c.args.datagram.now c.args.self.now c.count_datagram.new.self
    c.in-Datagrams.analyzer c.analyze_with-is_received.new.self
    c.analyze_with-is_received.new.observer.collector c.connection_id_len-id_len.result
    c.is_13-is_13.result (view_summary c.handshake.result.now) c.in_ok-is_received.was
    c.in-Datagrams.is c.analyze_with-is_received.ensures c.connection_id_len-id_len.ensures
    c.handshake.ensures c.is_13-is_13.ensures c.count_datagram.ensures)
