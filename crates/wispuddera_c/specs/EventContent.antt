-- The next event of a side, as a C struct.
use Rattle.std.specs.Prelude.{◌≡◌, ℕ, Bool, true, false, ◌&&◌, ◌==◌, Option, Some, None, Result, Ok, Err, [], ◌≤◌, length, drop, slice_index}
use Rattle.tls_base.specs.ExtensionNumbers.{pre_shared_key}
use Rattle.tls_stream.specs.FlowEvents.{event_of}
use Rattle.tls_stream.specs.Item.{Event as StreamEvent, Handshake, ChangeCipherSpec, Alert, Heartbeat, ApplicationData, Encrypted, Failed}
use Rattle.tls_stream.specs.declared.fault.Fault.{Fault}
use Rattle.tls_stream.specs.declared.fault.Fault.TheVariants as fault
use Rattle.tls_ext.specs.InPlace.{content_of}
use Rattle.layouts.specs.Bytes.{Bytes}
use Rattle.layouts.specs.Framed.{Framed}
use Rattle.layouts.specs.Meaning.{Answer, Refusal}
use Rattle.layouts.specs.Reading.{reading}
use Rattle.layouts.specs.Text.{held}
use Rattle.tls_flow.specs.declared.symbol.Direction.{Direction}
use Rattle.tls_hs.specs.InPlace.{raw_handshake}
use Rattle.tls_hs.specs.ServerHello.{ServerHello, server_hello}
use Rattle.wispuddera_c.specs.Outcome.{kind_of_number}
use Rattle.wispuddera_c.specs.Place.{StandsAt}
use Rattle.wispuddera_c.specs.Status.{kind_status}
use Rattle.wispuddera_c.specs.declared.content.ReadEvent.{ReadEvent}
use Rattle.wispuddera_c.specs.declared.content.EventContent.{EventContent}

abbrev pub form_number : StreamEvent → ℕ
form_number (Handshake m) = 0
form_number ChangeCipherSpec = 1
form_number (Alert a) = 2
form_number (Heartbeat b) = 3
form_number (ApplicationData b) = 4
form_number (Encrypted r) = 5
form_number (Failed f) = 6

-- A refused record; a message above the limit; another record between two fragments of a message.
abbrev pub fault_number : Fault → ℕ
fault_number (fault.Refused k) = kind_status k
fault_number fault.TooLarge = 11
fault_number fault.Interrupted = 12

abbrev pub fault_in : StreamEvent → ℕ
fault_in (Failed f) = fault_number f
fault_in v = 0

-- The bytes are those of the event: a message, the level and the description of an alert, or a
-- record, whose fragment follows 5 bytes.
abbrev pub AreBytesOf : StreamEvent → Bytes → Type 0
AreBytesOf (Handshake m) x = (4 ≤ length x) × (x ≡ m)
AreBytesOf ChangeCipherSpec x = 5 ≤ length x
AreBytesOf (Alert a) x = (length x ≡ 2) × (slice_index x 0 ≡ a.level)
    × (slice_index x 1 ≡ a.description)
AreBytesOf (Heartbeat b) x = (5 ≤ length x) × (drop 5 x ≡ b)
AreBytesOf (ApplicationData b) x = (5 ≤ length x) × (drop 5 x ≡ b)
AreBytesOf (Encrypted r) x = (5 ≤ length x) × (x ≡ r)
AreBytesOf (Failed f) x = x ≡ []

-- An extension is found.
abbrev pub is_found : Result (Option Bytes) Refusal → Bool
is_found (Ok (Some x)) = true
is_found (Ok None) = false
is_found (Err e) = false

-- A ServerHello resumes a session by its pre_shared_key (RFC 8446, section 4.2.11).
abbrev pub has_session_in : Answer ServerHello → Bool
has_session_in (Ok x) = is_found (content_of pre_shared_key (held x.0.extensions))
has_session_in (Err e) = false

abbrev pub takes_session_in : Answer Framed → Bool
takes_session_in (Ok x) = (x.0.kind == 2) && has_session_in (reading server_hello x.0.content)
takes_session_in (Err e) = false

abbrev pub takes_session : StreamEvent → Bool
takes_session (Handshake m) = takes_session_in (reading raw_handshake m)
takes_session v = false

-- The struct shows the event v of a side, whose bytes are in b.
pub record ShowsEvent (side : Direction) (b : Bytes) (c : EventContent)
    (v : StreamEvent) : Type 0 where
  pub form : c.form ≡ form_number v
  pub fault : c.fault ≡ fault_in v
  pub kind : kind_of_number c.kind ≡ (event_of side v).symbol.kind
  pub content : (x : Bytes) × StandsAt b c.content x × AreBytesOf v x

-- The conversation learns the event v of a side, whose bytes are in b.
pub record Shows (side : Direction) (b : Bytes) (h : ReadEvent) (v : StreamEvent) : Type 0 where
  pub shown_by : ShowsEvent side b h.content v
  pub event : h.event ≡ event_of side v
  pub session : h.takes_session ≡ takes_session v
