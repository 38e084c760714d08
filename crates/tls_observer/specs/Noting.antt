-- What a connection's events show, in all.
use Rattle.std.specs.Prelude.{ℕ, ◌-◌, ◌==◌, max, Bool, true, false, not, ◌&&◌, ◌||◌, if◌then◌else◌, is_some, List, [], ◌∷◌, Option, length}
use Rattle.layouts.specs.Bytes.{Bytes}
use Rattle.tls_stream.specs.Item.{Event as StreamEvent, Handshake, Alert, ApplicationData, Encrypted}
use Rattle.tls_flow.specs.declared.symbol.Direction.{Direction as Side}
use Rattle.tls_flow.specs.declared.symbol.Direction.TheVariants.{ToServer, FromServer}
use Rattle.tls_flow.specs.Steps.{follow}
use Rattle.tls_flow.specs.declared.event.FlowEvent.{FlowEvent}
use Rattle.tls_flow.specs.declared.flow.Flow.{Flow}
use Rattle.tls_flow.specs.Bytes.{HandshakeMessage}
use Rattle.tls_stream.specs.FlowEvents.{event_of, message_in}
use Rattle.tls_summary.specs.HandshakeSummary.{HandshakeSummary, is_stray, of_alert, of_message_if}
use Rattle.tls_summary.specs.Fields.{offers_early_data}

-- The summary after an event of this side, where m is its handshake message.
abbrev pub noted_with : Side → HandshakeSummary → StreamEvent → Option HandshakeMessage
    → HandshakeSummary
noted_with s f (Handshake b) m = of_message_if s m f
noted_with s f (Alert a) m = of_alert a.description f
noted_with s f _ m = f

abbrev pub noted : Side → HandshakeSummary → StreamEvent → HandshakeSummary
noted s f v = noted_with s f v (message_in v)

-- The flow after an event of this side, given the summary before it. A hello that doesn't belong to
-- the handshake is no step.
abbrev pub stepped : Side → Flow → HandshakeSummary → FlowEvent → Flow
stepped s w f e = if is_stray s e.symbol.kind f then w else follow w e

abbrev pub followed : Side → Flow → HandshakeSummary → StreamEvent → Flow
followed s w f v = stepped s w f (event_of s v)

-- The bytes of a record's encrypted content, if its header of 5 bytes has the type application_data
-- (RFC 8446, section 5.2).
abbrev pub data_length : Bytes → ℕ
data_length [] = 0
data_length (n ∷ b) = if n == 23 then length b - 4 else 0

-- The bytes of an event's encrypted content. A record of type application_data in front of the
-- ServerHello counts too, since it isn't known there whether it is encrypted.
abbrev pub sealed_length : StreamEvent → ℕ
sealed_length (Encrypted r) = data_length r
sealed_length (ApplicationData b) = length b
sealed_length _ = 0

abbrev pub is_handshake : StreamEvent → Bool
is_handshake (Handshake b) = true
is_handshake _ = false

-- The client sends early data until it has seen the ServerHello (RFC 8446, section 4.2.10). What is
-- still on its way when the ServerHello comes can't be told from what answers it.
abbrev pub may_be_early : HandshakeSummary → Bool
may_be_early f = offers_early_data f && not (is_some f.server)

-- The length of the longest encrypted record that the client sent in answer to the ServerHello: in
-- its stream behind its last ClientHello, the last message that it sends in the clear, and behind
-- its early data. A client without early data has no keys before the ServerHello, so its records
-- count even if a capture has them first.
abbrev pub longest_with : StreamEvent → HandshakeSummary → ℕ → ℕ
longest_with v f n =
    if is_handshake v then 0 else if may_be_early f then n else max n (sealed_length v)

abbrev pub longest_after : Side → StreamEvent → HandshakeSummary → ℕ → ℕ
longest_after ToServer v f n = longest_with v f n
longest_after FromServer v f n = n

-- What is known of a connection: the flow of its handshake, the summary, and the length of the
-- longest record that can hold the client's Finished.
pub record Known : Type 0 where
  pub flow : Flow
  pub handshake : HandshakeSummary
  pub longest : ℕ

abbrev pub known_by : Side → Known → StreamEvent → Known
known_by s k v = record {
  flow = followed s k.flow k.handshake v;
  handshake = noted s k.handshake v;
  longest = longest_after s v k.handshake k.longest;
}

-- What is known after these events of this side, the latest first.
abbrev pub known : Side → Known → List StreamEvent → Known
known s k [] = k
known s k (v ∷ vs) = known_by s (known s k vs) v

-- Whether what follows in this direction is encrypted.
abbrev pub is_sealed : StreamEvent → Bool
is_sealed (Encrypted r) = true
is_sealed (ApplicationData b) = true
is_sealed _ = false

-- Whether this holds for one of these events.
abbrev pub has_sealed : List StreamEvent → Bool
has_sealed [] = false
has_sealed (v ∷ vs) = has_sealed vs || is_sealed v
