use Rattle.std.proofs.Common.{rules, ap, ◌∙◌}
use Rattle.std.specs.Option.{option_map}
use Rattle.dtls_stream.specs.Messages.{view_event}
use Rattle.tls_flow.specs.Bytes.{kind_of_datagrams, view_handshake_message}
use Rattle.tls_observer.proofs.ViewLemmas.{copied_view}
use Rattle.tls_summary.specs.HandshakeSummary.{view_summary}
use Rattle.dtls_analyzer.proofs.EventLemmas.{same_step_in_datagram}
use Rattle.dtls_analyzer.proofs.account.Account.emit.Goals as goal

pub returns-clause-flow : goal.returns-clause-flow
returns-clause-flow g c =
    same_step_in_datagram c.args.side (view_event c.args.event.now)
    (option_map view_handshake_message c.datagram_message-message.result) c.of_datagrams-kind.result
    c.args.self.now.flow
    c.advance.new.flow (view_summary c.args.self.now.handshake) (search rules)
    (c.of_datagrams-kind.ensures
    ∙ ap kind_of_datagrams
    (copied_view view_handshake_message c.as_ref.result c.datagram_message-message.result
    c.as_ref.ensures.value))
    (search rules)
