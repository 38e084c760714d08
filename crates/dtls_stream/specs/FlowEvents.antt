-- A DTLS side's events as input for a flow.
use Rattle.std.specs.Prelude.{Option, Some, None}
use Rattle.dtls_stream.specs.Messages as datagrams
use Rattle.tls_flow.specs.Bytes.{HandshakeMessage, datagram_message, kind_of_datagrams}
use Rattle.tls_flow.specs.Events.{of_alert, plain}
use Rattle.tls_flow.specs.declared.event.FlowEvent.{FlowEvent}
use Rattle.tls_flow.specs.declared.symbol.Kind.{Kind}
use Rattle.tls_flow.specs.declared.symbol.Kind.TheVariants as kind
use Rattle.tls_flow.specs.declared.symbol.Direction.{Direction as Side}

-- The flow event, where k is the kind of a handshake message. What a peer drops is no event: a
-- record, or the rest of one, that can't be parsed (RFC 6347, section 4.1.2.7), and a refused
-- fragment, such as one of a retransmitted message (section 4.2.4).
abbrev pub event_in_datagram_with : Side → datagrams.Event → Kind → Option FlowEvent
event_in_datagram_with s (datagrams.Handshake m) k = Some (plain k s)
event_in_datagram_with s datagrams.ChangeCipherSpec k = Some (plain kind.ChangeCipherSpec s)
event_in_datagram_with s (datagrams.Alert a) k = Some (of_alert a s)
event_in_datagram_with s (datagrams.Encrypted r) k = Some (plain kind.Encrypted s)
event_in_datagram_with s (datagrams.Refused n e) k = None
event_in_datagram_with s (datagrams.Failed n) k = None

-- The handshake message, if it is one.
abbrev pub message_in_datagram : datagrams.Event → Option HandshakeMessage
message_in_datagram (datagrams.Handshake m) = Some (datagram_message m.msg_type m.body)
message_in_datagram e = None

abbrev pub kind_in_datagram : datagrams.Event → Kind
kind_in_datagram e = kind_of_datagrams (message_in_datagram e)

abbrev pub event_in_datagram : Side → datagrams.Event → Option FlowEvent
event_in_datagram s e = event_in_datagram_with s e (kind_in_datagram e)
