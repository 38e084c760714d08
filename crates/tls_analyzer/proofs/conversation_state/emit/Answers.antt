use Rattle.std.proofs.Common.{rules, ap, ◌∙◌}
use Rattle.std.specs.Option.{option_map}
use Rattle.tls_stream.specs.FlowEvents.{view_stream_event}
use Rattle.tls_summary.specs.HandshakeSummary.{view_summary}
use Rattle.tls_flow.specs.Bytes.{kind_of_message, view_handshake_message}
use Rattle.tls_observer.proofs.ViewLemmas.{copied_view}
use Rattle.tls_analyzer.proofs.EventLemmas.{same_event, same_step}
use Rattle.tls_analyzer.proofs.conversation_state.emit.Goals as goal

pub returns-clause-flow : goal.returns-clause-flow
returns-clause-flow g c =
    same_step c.args.side (view_stream_event c.args.sent.now)
    (option_map view_handshake_message c.stream_message-message.result)
    c.of_message-kind.result c.stream_event_with-event.result c.args.flow.now c.step.new.flow
    (view_summary c.args.handshake.now) (search rules)
    (c.of_message-kind.ensures
    ∙ ap kind_of_message
    (copied_view view_handshake_message c.as_ref.result c.stream_message-message.result c.as_ref.ensures.value))
    (search rules) (search rules)

pub returns-clause-event : goal.returns-clause-event
returns-clause-event g c =
    same_event c.args.side (view_stream_event c.args.sent.now)
    (option_map view_handshake_message c.stream_message-message.result)
    c.of_message-kind.result c.stream_event_with-event.result (search rules)
    (c.of_message-kind.ensures
    ∙ ap kind_of_message
    (copied_view view_handshake_message c.as_ref.result c.stream_message-message.result c.as_ref.ensures.value))
    (search rules)
