-- An event of DTLS that is followed with its parsed message.
use Rattle.std.proofs.Common.{◌≡◌, Option, ◌∙◌, ap}
use Rattle.tls_flow.specs.declared.flow.Flow.{Flow}
use Rattle.tls_flow.specs.declared.symbol.Direction.{Direction as Side}
use Rattle.dtls_stream.specs.FlowEvents.{kind_in_datagram, message_in_datagram}
use Rattle.dtls_stream.specs.Messages as datagrams
use Rattle.dtls_analyzer.specs.Datagrams as in_datagrams
use Rattle.tls_flow.specs.Bytes.{HandshakeMessage, kind_of_datagrams}
use Rattle.tls_flow.specs.declared.symbol.Kind.{Kind}
use Rattle.tls_summary.specs.HandshakeSummary.{HandshakeSummary}

-- The kind of an event, from its parsed message.
pub kind_is : (v : datagrams.Event) (m : Option HandshakeMessage) (k : Kind)
    → m ≡ message_in_datagram v → k ≡ kind_of_datagrams m → k ≡ kind_in_datagram v
kind_is v m k is_m is_k = is_k ∙ ap kind_of_datagrams is_m

-- An event of DTLS built from the parsed message.
pub same_step_in_datagram : (s : Side) (v : datagrams.Event) (m : Option HandshakeMessage)
    (k : Kind) (w x : Flow) (h : HandshakeSummary)
    → m ≡ message_in_datagram v → k ≡ kind_of_datagrams m
    → x ≡ in_datagrams.advanced_with s w h v k
    → x ≡ in_datagrams.advanced s w h v
same_step_in_datagram s v m k w x h is_m is_k is =
    is ∙ ap (in_datagrams.advanced_with s w h v) (is_k ∙ ap kind_of_datagrams is_m)
