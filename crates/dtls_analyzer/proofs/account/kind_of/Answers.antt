use Rattle.std.proofs.Common.{rules, ap, ◌∙◌}
use Rattle.std.specs.Option.{option_map}
use Rattle.dtls_stream.specs.Messages.{view_event}
use Rattle.tls_flow.specs.Bytes.{kind_of_datagrams, view_handshake_message}
use Rattle.tls_observer.proofs.ViewLemmas.{copied_view}
use Rattle.dtls_analyzer.proofs.EventLemmas.{kind_is}
use Rattle.dtls_analyzer.proofs.account.kind_of.Goals as goal

pub returns : goal.returns
returns c =
    kind_is (view_event c.args.event.now)
    (option_map view_handshake_message c.datagram_message-message.result) c.of_datagrams-kind.result
    (search rules)
    (c.of_datagrams-kind.ensures
    ∙ ap kind_of_datagrams
    (copied_view view_handshake_message c.as_ref.result c.datagram_message-message.result
    c.as_ref.ensures.value))
