-- A side's events of TLS or of DTLS as those of a conversation.
pub use Rattle.tls_flow.specs.Events.{plain, of_alert}
pub use Rattle.tls_stream.specs.FlowEvents.{event_with, message_in, kind_of_stream_event, event_of, view_stream_event, kind_chooses, chooses_tls13}
pub use Rattle.dtls_stream.specs.FlowEvents.{event_in_datagram_with, message_in_datagram, kind_in_datagram, event_in_datagram}
