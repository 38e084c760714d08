-- The messages that are kept of a connection.
use Rattle.std.specs.Prelude.{◌≡◌, ◌++◌, ◌+◌, ◌-◌, ◌^◌, min, ℕ, Bool, true, false, List, [], ◌∷◌, map, Option, Some, None}
use Rattle.dtls_stream.specs.declared.event.Event as datagrams
use Rattle.dtls_stream.specs.declared.event.Event.TheVariants as datagram
use Rattle.tls_flow.specs.declared.symbol.Direction.{Direction}
use Rattle.tls_flow.specs.declared.symbol.Direction.TheVariants.{ToServer, FromServer}
use Rattle.tls_json.specs.declared.suite.SuiteText.{SuiteText}
use Rattle.tls_json.specs.declared.suite.SuiteText.TheVariants.{Name, Number}
use Rattle.tls_stream.specs.declared.event.Event as streams
use Rattle.tls_stream.specs.declared.event.Event.TheVariants as stream
use Rattle.tls_stream.specs.declared.side_event.SideEvent.{SideEvent}
use Rattle.tls_stream.specs.declared.side_event.SideEvent.TheVariants as side
use Rattle.log_messages.specs.declared.message_collector.CollectedMessages.{CollectedMessages}
use Rattle.log_messages.specs.declared.message_collector.MessageCollector.{MessageCollector}
use Rattle.log_messages.specs.declared.message_collector.SentMessage.{SentMessage}

abbrev pub messages_of : MessageCollector → List SentMessage
messages_of m = m.kept.messages.items

abbrev pub is_by_number : SuiteText → Bool
is_by_number Name = false
is_by_number Number = true

-- Cipher suites are written by number.
abbrev pub writes_numbers : MessageCollector → Bool
writes_numbers m = is_by_number m.kept.suite_text

-- A message's sender, how many messages its sender and both sides sent before it, and the content
-- type of its record (RFC 8446, section 5.1). What is printed of it isn't defined.
pub record Place : Type 0 where
  pub direction : Direction
  pub before : ℕ
  pub number : ℕ
  pub content_type : ℕ

abbrev pub place_of : SentMessage → Place
place_of m = record {
  direction = m.direction;
  before = m.place;
  number = m.number;
  content_type = m.message.content_type.0;
}

abbrev pub places_in : CollectedMessages → List Place
places_in m = map place_of m.messages.items

-- How many messages a direction's sender has sent. The count saturates.
abbrev pub count_of : Direction → CollectedMessages → ℕ
count_of ToServer m = m.client_count
count_of FromServer m = m.server_count

-- How many messages both sides have sent. The count saturates.
abbrev pub sent_by_both : CollectedMessages → ℕ
sent_by_both m = min (m.client_count + m.server_count) (2 ^ 64 - 1)

abbrev pub counting : Direction → ℕ → ℕ → ℕ → Direction → ℕ
counting ToServer n client server ToServer = n
counting ToServer n client server FromServer = server
counting FromServer n client server ToServer = client
counting FromServer n client server FromServer = n

abbrev pub one_more : ℕ → ℕ
one_more n = min (n + 1) (2 ^ 64 - 1)

-- The content type of an event of TLS that is an unencrypted message, but for application data.
abbrev pub type_in_stream : streams.Event → Option ℕ
type_in_stream (stream.Handshake bytes) = Some 22
type_in_stream stream.ChangeCipherSpec = Some 20
type_in_stream (stream.Alert alert) = Some 21
type_in_stream (stream.Heartbeat fragment) = Some 24
type_in_stream (stream.ApplicationData bytes) = None
type_in_stream (stream.Encrypted e) = None

abbrev pub type_of_side : SideEvent → Option ℕ
type_of_side (side.Event e) = type_in_stream e
type_of_side (side.Fault f) = None

-- The content type of an event of DTLS that is an unencrypted message. A handshake message is one
-- if it was parsed.
abbrev pub type_in_datagram : datagrams.Event → Bool → Option ℕ
type_in_datagram (datagram.Handshake m) true = Some 22
type_in_datagram (datagram.Handshake m) false = None
type_in_datagram datagram.ChangeCipherSpec is_read = Some 20
type_in_datagram (datagram.Alert alert) is_read = Some 21
type_in_datagram (datagram.Encrypted e) is_read = None
type_in_datagram (datagram.Refused e n) is_read = None
type_in_datagram (datagram.Fault f) is_read = None

-- The message is kept behind the others, and its sender's count grows.
pub record KeepsNext (d : Direction) (n : ℕ) (old new : CollectedMessages) : Type 0 where
  pub kept : places_in new ≡ places_in old
      ++ record {
        direction = d;
        before = count_of d old;
        number = sent_by_both old;
        content_type = n;
      } ∷ []
  pub client : count_of ToServer new
      ≡ counting d (one_more (count_of d old)) old.client_count old.server_count ToServer
  pub server : count_of FromServer new
      ≡ counting d (one_more (count_of d old)) old.client_count old.server_count FromServer

-- An event that is a message of this type is kept. Any other changes nothing.
abbrev pub Keeps : Direction → Option ℕ → CollectedMessages → CollectedMessages → Type 0
Keeps d None old new = new ≡ old
Keeps d (Some n) old new = KeepsNext d n old new
