-- What a connection's analysis says of its handshake: over TCP by the state of its analyzer, over
-- UDP by what the analyzer of its datagrams knows.
use Rattle.std.specs.Prelude.{◌≡◌, ℕ, Bool, false, Option}
use Rattle.layouts.specs.Bytes.{Bytes}
use Rattle.connections.specs.declared.connection.Side.{Side}
use Rattle.connections.specs.declared.connection.Side.TheVariants.{Originator, Responder}
use Rattle.connections.specs.declared.five_tuple.Protocol.{Protocol}
use Rattle.connections.specs.declared.five_tuple.Protocol.TheVariants.{Tcp, Udp}
use Rattle.tls_flow.specs.Table.{outcome_at}
use Rattle.tls_flow.specs.declared.symbol.Direction.{Direction}
use Rattle.tls_flow.specs.declared.symbol.Direction.TheVariants.{ToServer, FromServer}
use Rattle.tls_flow.specs.declared.state.Outcome.{Outcome}
use Rattle.tls_flow.specs.declared.flow.Stop.{Stop}
use Rattle.tls_summary.specs.HandshakeSummary.{HandshakeSummary, view_summary}
use Rattle.dtls_analyzer.specs.Another.{begins_another}
use Rattle.dtls_analyzer.specs.Datagrams.{IsKnown, side_progress}
use Rattle.dtls_analyzer.specs.Datagrams as datagrams
use Rattle.tls_analyzer.specs.Analyzers.{has_finished_by}
use Rattle.tls_analyzer.specs.Following.{known_of}
use Rattle.tls_observer.specs.Ends.{is_established, is_resumed}
use Rattle.log_connections.specs.declared.analysis.TlsAnalysis.{TlsAnalysis}
use Rattle.log_connections.specs.declared.analysis.TransportAnalyzer.{TransportAnalyzer}
use Rattle.log_connections.specs.declared.analysis.TransportAnalyzer.TheVariants as transport

-- The summary of the handshake's clear messages.
abbrev pub HasHandshake : HandshakeSummary → TransportAnalyzer → Type 0
HasHandshake h (transport.Stream x f) = h ≡ view_summary x.conversation_state.handshake
HasHandshake h (transport.Datagrams t) = (k : datagrams.Analyzer) → IsKnown k t → h ≡ k.handshake

abbrev pub HasHistory : Bytes → TransportAnalyzer → Type 0
HasHistory b (transport.Stream x f) = b ≡ x.conversation_state.history.items
HasHistory b (transport.Datagrams t) = (k : datagrams.Analyzer) → IsKnown k t → b ≡ k.history

abbrev pub HasOutcome : Outcome → TransportAnalyzer → Type 0
HasOutcome o (transport.Stream x f) = o ≡ outcome_at x.conversation_state.flow.state
HasOutcome o (transport.Datagrams t) =
    (k : datagrams.Analyzer) → IsKnown k t → o ≡ outcome_at k.flow.state

abbrev pub HasStop : Option Stop → TransportAnalyzer → Type 0
HasStop s (transport.Stream x f) = s ≡ x.conversation_state.flow.stop
HasStop s (transport.Datagrams t) = (k : datagrams.Analyzer) → IsKnown k t → s ≡ k.flow.stop

-- The readable part of the handshake is complete, or not.
abbrev pub IsEstablishedBy : Bool → TransportAnalyzer → Type 0
IsEstablishedBy b (transport.Stream x f) =
    b ≡ is_established (outcome_at x.conversation_state.flow.state)
    (has_finished_by (known_of x.conversation_state))
IsEstablishedBy b (transport.Datagrams t) =
    (k : datagrams.Analyzer) → IsKnown k t
    → b ≡ is_established (outcome_at k.flow.state) (datagrams.has_finished_by k)

-- A session was resumed, or not.
abbrev pub IsResumedBy : Bool → TransportAnalyzer → Type 0
IsResumedBy b (transport.Stream x f) =
    b ≡ is_resumed (outcome_at x.conversation_state.flow.state)
    (view_summary x.conversation_state.handshake)
IsResumedBy b (transport.Datagrams t) =
    (k : datagrams.Analyzer) → IsKnown k t
    → b ≡ is_resumed (outcome_at k.flow.state) k.handshake

-- The first messages of the side that speaks in this direction weren't captured. Only the message
-- numbers of DTLS (RFC 6347, section 4.2.2) show that.
abbrev pub LacksFront : Bool → Direction → TransportAnalyzer → Type 0
LacksFront b d (transport.Stream x f) = b ≡ false
LacksFront b d (transport.Datagrams t) =
    (k : datagrams.Analyzer) → IsKnown k t → b ≡ (side_progress k d).lacks_front

-- A datagram that is sent in this direction begins another DTLS association, or not. Only one of
-- the client does.
abbrev pub begins_by : Direction → datagrams.Analyzer → Bytes → Bool
begins_by ToServer k datagram = begins_another k datagram
begins_by FromServer k datagram = false

abbrev pub BeginsAnother : Bool → Direction → Bytes → TransportAnalyzer → Type 0
BeginsAnother b d datagram (transport.Stream x f) = b ≡ false
BeginsAnother b d datagram (transport.Datagrams t) =
    (k : datagrams.Analyzer) → IsKnown k t → b ≡ begins_by d k datagram

module _ {K : Type 0} where
  -- How many records a side sent.
  abbrev pub records_of : Protocol → Side → TlsAnalysis K → ℕ
  records_of Tcp Originator a = a.from_originator.count
  records_of Tcp Responder a = a.from_responder.count
  records_of Udp Originator a = a.by_originator.count
  records_of Udp Responder a = a.by_responder.count
