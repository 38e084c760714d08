-- What each record of a direction contains (RFC 5246, section 6.2; RFC 8446, sections 5 and D.4).
use Rattle.std.specs.Prelude.{
  ℕ,
  Bool,
  true,
  false,
  cond,
  ◌||◌,
  ◌&&◌,
  not,
  ◌==◌,
  nat_le,
  nat_lt,
  Option,
  Some,
  None,
  List,
  [],
  ◌∷◌,
  length,
  drop,
  slice_index,
}
use Rattle.layouts.specs.Bytes.{Bytes}
use Rattle.layouts.specs.declared.result.ErrorKind.{ErrorKind}
use Rattle.layouts.specs.declared.result.ErrorKind.TheVariants.{TooLarge, Switch, Verify}
use Rattle.tls_base.specs.Alert as alerts
use Rattle.raw_records.specs.Framing.{max_encrypted_length, max_fragment_length}
use Rattle.tls_stream.specs.Frames.{Kind, Shape, up_to, body_length}
use Rattle.tls_stream.specs.Records as frames
use Rattle.tls_stream.specs.declared.fault.Fault.{Fault}
use Rattle.tls_stream.specs.declared.event.Event as rust
use Rattle.tls_stream.specs.declared.event.Event.TheVariants as event
use Rattle.tls_stream.specs.declared.item.Item as rust_item
use Rattle.tls_stream.specs.declared.item.Item.TheVariants as item

-- An event of a direction.
pub data Event : Type 0 where
  -- the bytes of a handshake message, with its header of 4 bytes
  Handshake : Bytes → Event
  ChangeCipherSpec : Event
  Alert : alerts.Alert → Event
  -- the fragment of a record
  Heartbeat : Bytes → Event
  ApplicationData : Bytes → Event
  -- the bytes of a record, with its header of 5 bytes
  Encrypted : Bytes → Event
  -- the last event: nothing after it is read
  Failed : Fault → Event

abbrev pub view_event : rust.Event → Event
view_event (event.Handshake b) = Handshake b.now
view_event event.ChangeCipherSpec = ChangeCipherSpec
view_event (event.Alert a) = Alert (alerts.view_alert a)
view_event (event.Heartbeat b) = Heartbeat b.now
view_event (event.ApplicationData b) = ApplicationData b.now
view_event (event.Encrypted b) = Encrypted b.now

-- An alert in the clear has a record to itself (RFC 8446, section 5.1; peers of older versions
-- don't join two either): 2 bytes, of which the first is 1 for a warning or 2 for a fatal alert
-- (RFC 5246, section 7.2).
abbrev pub is_alert : Bytes → Bool
is_alert b = (length b == 2) && ((slice_index b 0 == 1) || (slice_index b 0 == 2))

-- What was learned about a direction.
pub record Standing : Type 0 where
  -- whether TLS 1.3 was chosen
  pub is_tls13 : Bool
  -- whether it has sent its ChangeCipherSpec
  pub has_changed : Bool

-- The content type in a record's header: 20 is change_cipher_spec, 21 alert, 22 handshake, 23
-- application_data and 24 heartbeat.
abbrev pub content_type : Bytes → ℕ
content_type r = slice_index r 0

abbrev pub fragment : Bytes → Bytes
fragment r = drop 5 r

-- Whether a record of this type is encrypted. In TLS 1.3 this is application data, and a
-- ChangeCipherSpec means nothing (RFC 8446, section D.4); in older versions, every record after the
-- ChangeCipherSpec.
abbrev pub is_encrypted : Standing → ℕ → Bool
is_encrypted s kind = cond s.is_tls13 (kind == 23) s.has_changed

-- Whether a record is encrypted, by its header or because its content is no alert.
abbrev pub is_sealed_alert : Bytes → Bool
is_sealed_alert r = (content_type r == 21) && not (is_alert (fragment r))

unfoldable pub is_sealed : Standing → Bytes → Bool
is_sealed s r = is_encrypted s (content_type r) || is_sealed_alert r

-- Records with fragments of up to 2^14 + 2048 bytes (RFC 5246, section 6.2.3). Only an encrypted
-- record may have that many.
abbrev pub wide_record : Shape
wide_record = up_to frames.records max_encrypted_length

abbrev pub is_known : ℕ → Bool
is_known kind = nat_le 20 kind && nat_le kind 24

-- Why a record with this header is refused.
abbrev pub refusal : Bool → ℕ → ℕ → Option ErrorKind
refusal true kind n = cond (nat_le n max_encrypted_length) None (Some TooLarge)
refusal false kind n =
    cond (is_known kind) (cond (nat_le n max_fragment_length) None (Some TooLarge)) (Some Switch)

-- Why the record that these bytes start with is refused.
abbrev pub refused : Standing → Bytes → Option ErrorKind
refused s b = refusal (is_encrypted s (content_type b)) (content_type b) (body_length wide_record b)

-- What a record contains.
pub data Item : Type 0 where
  -- a fragment of messages of this type
  Fragment : ℕ → Bytes → Item
  -- an event by itself
  Alone : Event → Item
  -- a record that is refused
  Broken : ErrorKind → Item

abbrev pub view_item : rust_item.Item → Item
view_item (item.Fragment kind b) = Fragment kind b.now
view_item (item.Alone e) = Alone (view_event e)
view_item (item.Broken k) = Broken k

-- A ChangeCipherSpec is the one byte 1 (RFC 5246, section 7.1).
abbrev pub is_change : Bytes → Bool
is_change b = (length b == 1) && (slice_index b 0 == 1)

abbrev pub change_in : Bytes → Item
change_in b = cond (is_change b) (Alone ChangeCipherSpec) (Broken Verify)

-- What a record that isn't encrypted contains, by its type and its fragment.
abbrev pub plain_item : ℕ → Bytes → Item
plain_item kind b =
    cond (kind == 20) (change_in b) (
    cond (kind == 23) (Alone (ApplicationData b)) (
    cond (kind == 24) (Alone (Heartbeat b)) (Fragment kind b)))

abbrev pub read_item : Bool → Bytes → Item
read_item true r = Alone (Encrypted r)
read_item false r = plain_item (content_type r) (fragment r)

abbrev pub or_broken : Option ErrorKind → Item → Item
or_broken (Some k) i = Broken k
or_broken None i = i

-- What a whole record contains.
abbrev pub item_of : Standing → Bytes → Item
item_of s r = or_broken (refused s r) (read_item (is_sealed s r) r)

-- What is known after a record.
abbrev pub after : Standing → Bytes → Standing
after s r = record { is_tls13 = s.is_tls13; has_changed = s.has_changed || (content_type r == 20) }

-- Why a record is refused whose first bytes these are, once its header is whole.
abbrev pub broken_in : Option ErrorKind → List Item
broken_in (Some k) = Broken k ∷ []
broken_in None = []

abbrev pub broken_front : Standing → Bytes → List Item
broken_front s b = cond (nat_le 5 (length b)) (broken_in (refused s b)) []

-- What the records contain, in order, if these bytes are left after them.
abbrev pub items : Standing → List Bytes → Bytes → List Item
items s [] l = broken_front s l
items s (r ∷ rs) l = item_of s r ∷ items (after s r) rs l
