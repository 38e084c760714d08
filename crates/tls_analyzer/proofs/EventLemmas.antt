-- An event of TLS that is followed with its parsed message.
use Rattle.std.proofs.Common.{◌≡◌, Option, ◌∙◌, ap}
use Rattle.tls_stream.specs.Item.{Event as StreamEvent}
use Rattle.tls_summary.specs.HandshakeSummary.{HandshakeSummary}
use Rattle.tls_flow.specs.declared.event.FlowEvent.{FlowEvent}
use Rattle.tls_flow.specs.declared.flow.Flow.{Flow}
use Rattle.tls_flow.specs.declared.symbol.Direction.{Direction as Side}
use Rattle.tls_stream.specs.FlowEvents.{event_of, event_with, message_in}
use Rattle.tls_flow.specs.Bytes.{HandshakeMessage, kind_of_message}
use Rattle.tls_flow.specs.declared.symbol.Kind.{Kind}
use Rattle.tls_observer.specs.Noting.{followed, stepped}

-- An event built from the parsed message.
pub same_event : (s : Side) (v : StreamEvent) (m : Option HandshakeMessage) (k : Kind) (e : FlowEvent)
    → m ≡ message_in v
    → k ≡ kind_of_message m → e ≡ event_with s v k → e ≡ event_of s v
same_event s v m k e is_m is_k is_e = is_e ∙ ap (event_with s v) (is_k ∙ ap kind_of_message is_m)

pub same_step : (s : Side) (v : StreamEvent) (m : Option HandshakeMessage) (k : Kind) (e : FlowEvent)
    (w x : Flow) (f : HandshakeSummary)
    → m ≡ message_in v → k ≡ kind_of_message m → e ≡ event_with s v k → x ≡ stepped s w f e
    → x ≡ followed s w f v
same_step s v m k e w x f is_m is_k is_e is =
    is ∙ ap (stepped s w f) (same_event s v m k e is_m is_k is_e)
