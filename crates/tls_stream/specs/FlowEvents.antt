-- A side's events as input for a flow.
use Rattle.std.specs.Prelude.{Bool, true, false, Option, None}
use Rattle.tls_stream.specs.Item.{Event as StreamEvent, Handshake, ChangeCipherSpec, Alert, Heartbeat, ApplicationData, Encrypted, Failed, view_event}
use Rattle.tls_flow.specs.Bytes.{HandshakeMessage, kind_of_message, message_of}
use Rattle.tls_flow.specs.Events.{of_alert, plain}
use Rattle.tls_flow.specs.declared.event.FlowEvent.{FlowEvent}
use Rattle.tls_flow.specs.declared.symbol.Kind.{Kind}
use Rattle.tls_flow.specs.declared.symbol.Kind.TheVariants as kind
use Rattle.tls_flow.specs.declared.symbol.Direction.{Direction as Side}
use Rattle.tls_flow.specs.declared.symbol.Direction.TheVariants.{ToServer, FromServer}
use Rattle.tls_stream.specs.declared.side_event.SideEvent as rust
use Rattle.tls_stream.specs.declared.side_event.SideEvent.TheVariants as sent

-- The flow event, where k is the kind of a handshake message. A fault is an unknown message;
-- application data counts as encrypted, since a handshake has none in the clear.
abbrev pub event_with : Side → StreamEvent → Kind → FlowEvent
event_with s (Handshake m) k = plain k s
event_with s ChangeCipherSpec k = plain kind.ChangeCipherSpec s
event_with s (Alert a) k = of_alert a s
event_with s (Heartbeat b) k = plain kind.Heartbeat s
event_with s (ApplicationData b) k = plain kind.Encrypted s
event_with s (Encrypted r) k = plain kind.Encrypted s
event_with s (Failed f) k = plain kind.Unknown s

-- The handshake message, if it is one.
abbrev pub message_in : StreamEvent → Option HandshakeMessage
message_in (Handshake m) = message_of m
message_in v = None

abbrev pub kind_of_stream_event : StreamEvent → Kind
kind_of_stream_event v = kind_of_message (message_in v)

abbrev pub event_of : Side → StreamEvent → FlowEvent
event_of s v = event_with s v (kind_of_stream_event v)

abbrev pub view_stream_event : rust.SideEvent → StreamEvent
view_stream_event (sent.Event e) = view_event e
view_stream_event (sent.Fault f) = Failed f

-- The server chooses TLS 1.3 with its ServerHello, or asks for a second ClientHello, which no other
-- version does.
abbrev pub kind_chooses : Kind → Bool
kind_chooses kind.ServerHello13 = true
kind_chooses kind.HelloRetryRequest = true
kind_chooses k = false

abbrev pub chooses_tls13 : Kind → Side → Bool
chooses_tls13 k FromServer = kind_chooses k
chooses_tls13 k ToServer = false
