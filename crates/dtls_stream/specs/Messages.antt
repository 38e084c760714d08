-- The messages of one direction, from the mixed fragments of several (RFC 6347, sections 4.2.2 to
-- 4.2.4).
use Rattle.std.specs.Prelude.{◌≡◌, ℕ, zero, suc, ◌+◌, ◌<◌, ◌≤◌, ◌⊎◌, ⊤, cond, nat_le, nat_lt, Option, Some, None, Result, Ok, Err, ◌==◌, List, [], ◌∷◌, ◌++◌, length, map}
use Rattle.std.specs.Option.{option_map}
use Rattle.std.proofs.Common.{get_or}
use Rattle.layouts.specs.Bytes.{Bytes}
use Rattle.layouts.specs.declared.result.ErrorKind.{ErrorKind}
use Rattle.tls_base.specs.Alert as alerts
use Rattle.dtls_stream.specs.declared.event.EncryptedRecord.{EncryptedRecord as Sealed}
use Rattle.dtls_stream.specs.Fragments.{Fragment, Held, IsAdded, IsOfSame, agrees, byte, first_at, inside, judged}
use Rattle.dtls_stream.specs.declared.event.Event.{Event as Lent}
use Rattle.dtls_stream.specs.declared.event.Event.TheVariants as event
use Rattle.dtls_stream.specs.declared.event.Message.{Message as Owned}
use Rattle.dtls_stream.specs.declared.messages.Limits.{Limits as Given}
use Rattle.dtls_stream.specs.declared.fragments.FragmentError.{FragmentError}
use Rattle.dtls_stream.specs.declared.fragments.FragmentError.TheVariants.{Old, TooFarAhead, TooLarge, OutOfMemory}

-- A handshake message with its whole body.
pub record Message : Type 0 where
  pub msg_type : ℕ
  pub message_seq : ℕ
  pub body : Bytes

abbrev pub view_message : Owned → Message
view_message m =
    record { msg_type = m.msg_type.0; message_seq = m.message_seq; body = m.body.items }

-- The limits that a caller sets.
pub record Limits : Type 0 where
  -- bytes of a message's body
  pub message : ℕ
  -- messages buffered at a time, including the next one
  pub ahead : ℕ

abbrev pub view_limits : Given → Limits
view_limits l = record { message = l.message; ahead = l.ahead }

-- An encrypted record, wherever it lies in memory.
pub record EncryptedRecord : Type 0 where
  pub content_type : ℕ
  pub version : ℕ
  pub epoch : ℕ
  pub sequence_number : ℕ
  pub fragment : Bytes

abbrev pub view_encrypted : Sealed → EncryptedRecord
view_encrypted r = record {
  content_type = r.content_type.0;
  version = r.version.0;
  epoch = r.epoch;
  sequence_number = r.sequence_number;
  fragment = r.fragment.now;
}

-- An event of a direction.
pub data Event : Type 0 where
  Handshake : Message → Event
  ChangeCipherSpec : Event
  Alert : alerts.Alert → Event
  -- a record of an epoch above 0, which isn't parsed
  Encrypted : EncryptedRecord → Event
  -- a refused fragment of the message with this number
  Refused : ℕ → FragmentError → Event
  -- a record, or the rest of one or of a datagram, that can't be parsed
  Failed : ErrorKind → Event

abbrev pub view_event : Lent → Event
view_event (event.Handshake m) = Handshake (view_message m)
view_event event.ChangeCipherSpec = ChangeCipherSpec
view_event (event.Alert a) = Alert (alerts.view_alert a)
view_event (event.Encrypted r) = Encrypted (view_encrypted r)
view_event (event.Refused seq e) = Refused seq e
view_event (event.Fault kind) = Failed kind

abbrev pub view_events : List Lent → List Event
view_events es = map view_event es

-- The fragments of one message.
abbrev pub of_message : ℕ → List Fragment → List Fragment
of_message seq [] = []
of_message seq (f ∷ fs) = cond (f.message_seq == seq) (f ∷ of_message seq fs) (of_message seq fs)

abbrev pub with_byte : Option ℕ → Option Bytes → Option Bytes
with_byte (Some x) (Some b) = Some (x ∷ b)
with_byte (Some x) None = None
with_byte None b = None

-- The n bytes from place i on, if each is known.
abbrev pub bytes_from : List Fragment → ℕ → ℕ → Option Bytes
bytes_from fs i zero = Some []
bytes_from fs i (suc n) = with_byte (first_at fs i) (bytes_from fs (suc i) n)

-- The message of these fragments, once they cover it. The first one gives its fields.
abbrev pub message_of : List Fragment → Option Message
message_of [] = None
message_of (f ∷ fs) =
    option_map (λ b. record { msg_type = f.msg_type; message_seq = f.message_seq; body = b })
    (bytes_from (f ∷ fs) 0 f.length)

abbrev pub followed : Option Message → List Message → List Message
followed (Some m) ms = m ∷ ms
followed None ms = []

-- The messages from this number on, at most n, up to the first that isn't covered.
abbrev pub whole_from : ℕ → ℕ → List Fragment → List Message
whole_from zero next ts = []
whole_from (suc n) next ts = followed (message_of (of_message next ts)) (whole_from n (suc next) ts)

-- The state of a direction: the fragments that were added, in order, and how many messages were
-- delivered.
pub record Received : Type 0 where
  pub taken : List Fragment
  pub next : ℕ

abbrev pub nothing : Received
nothing = record { taken = []; next = 0 }

-- Nothing was read, and the messages before this number are missing.
abbrev pub nothing_from : ℕ → Received
nothing_from first = record { taken = []; next = first }

-- Whether a fragment agrees with those of its message that were added.
abbrev pub agreed : List Fragment → Fragment → Result Unit FragmentError
agreed [] f = inside f
agreed (g ∷ gs) f = agrees g.length f

-- Whether a fragment is added.
abbrev pub verdict : Limits → Received → Fragment → Result Unit FragmentError
verdict l h f =
    cond (nat_lt f.message_seq h.next) (Err Old) (
    cond (nat_le (h.next + l.ahead) f.message_seq) (Err TooFarAhead) (
    cond (nat_lt l.message f.length) (Err TooLarge) (
    agreed (of_message f.message_seq h.taken) f)))

abbrev pub with_taken : Received → Fragment → List Fragment
with_taken h f = h.taken ++ f ∷ []

abbrev pub received_by : Result Unit FragmentError → Limits → Received → Fragment → Received
received_by (Err e) l h f = h
received_by (Ok t) l h f =
    record {
      taken = with_taken h f;
      next =
          h.next + length (whole_from l.ahead h.next (with_taken h f));
    }

-- The state after this fragment. If it is added, all next messages that are covered are delivered.
abbrev pub received : Limits → Received → Fragment → Received
received l h f = received_by (verdict l h f) l h f

abbrev pub emitted_by : Result Unit FragmentError → Limits → Received → Fragment → List Event
emitted_by (Err e) l h f = Refused f.message_seq e ∷ []
emitted_by (Ok t) l h f = map Handshake (whole_from l.ahead h.next (with_taken h f))

-- The events of a fragment: the messages that are delivered, or why it is refused.
abbrev pub emitted : Limits → Received → Fragment → List Event
emitted l h f = emitted_by (verdict l h f) l h f

-- The reassembly buffer of a direction: fragments of the next message and of those ahead of it.
pub record Kept : Type 0 where
  pub limits : Given
  pub next : ℕ
  pub slots : List (Option Held)

abbrev pub slot : Kept → ℕ → Option Held
slot k i = get_or k.slots i None

-- The buffer of one message agrees with these fragments: the first one gives its fields, and the
-- first byte at each place is kept.
pub record IsHeld (f : Fragment) (fs : List Fragment) (h : Held) : Type 0 where
  pub same : IsOfSame h f
  pub bytes : (i : ℕ) → byte h i ≡ first_at (f ∷ fs) i

abbrev pub IsPart : List Fragment → Option Held → Type 0
IsPart [] None = ⊤
IsPart [] (Some h) = ⊥
IsPart (f ∷ fs) None = ⊥
IsPart (f ∷ fs) (Some h) = IsHeld f fs h

-- The buffer agrees with the state.
pub record Stands (l : Limits) (h : Received) (k : Kept) : Type 0 where
  pub limits : view_limits k.limits ≡ l
  pub next : k.next ≡ h.next
  pub few : length k.slots ≤ l.ahead
  pub each : (i : ℕ) → IsPart (of_message (h.next + i) h.taken) (slot k i)

-- The next messages are delivered.
pub record AreHandedOut (l : Limits) (h : Received) (es : List Event) (es' : List Event)
    (k' : Kept) : Type 0 where
  pub events : es' ≡ es ++ map Handshake (whole_from l.ahead h.next h.taken)
  pub stands : Stands l (record h { next = h.next + length (whole_from l.ahead h.next h.taken) }) k'

-- A fragment was read.
pub record IsReceived (l : Limits) (h : Received) (f : Fragment) (es : List Event)
    (es' : List Event)
    (k' : Kept) : Type 0 where
  pub events : es' ≡ es ++ emitted l h f
  pub stands : Stands l (received l h f) k'

-- The events of fragments, in order.
unfoldable pub events : Limits → Received → List Fragment → List Event
events l h [] = []
events l h (f ∷ fs) = emitted l h f ++ events l (received l h f) fs

-- The state after these fragments.
unfoldable pub after : Limits → Received → List Fragment → Received
after l h [] = h
after l h (f ∷ fs) = after l (received l h f) fs

-- The messages among the events.
abbrev pub messages : List Event → List Message
messages [] = []
messages (Handshake m ∷ es) = m ∷ messages es
messages (e ∷ es) = messages es

-- Memory ran out while messages were delivered: earlier events stay, and the rest of the messages
-- are buffered and come next.
pub record AreKept (l : Limits) (h : Received) (es : List Event) (es' : List Event)
    (k' : Kept) : Type 0 where
  pub kept : List Message
  pub next : ℕ
  pub front : List Event
  pub emitted : es' ≡ es ++ front
  pub all : front ++ map Handshake kept ≡ map Handshake (whole_from l.ahead h.next h.taken)
  pub count : next + length kept ≡ h.next + length (whole_from l.ahead h.next h.taken)
  pub stands : Stands l (record h { next = next }) k'

-- Memory ran out within these fragments: earlier events stay, and a prefix of the fragments was
-- added. Their events are reported except for messages that are still buffered, which are whole and
-- come next.
pub record IsStopped (l : Limits) (h : Received) (fs : List Fragment) (es : List Event)
    (es' : List Event) (k' : Kept) : Type 0 where
  pub first : List Fragment
  pub behind : List Fragment
  pub split : fs ≡ first ++ behind
  pub kept : List Message
  pub next : ℕ
  pub front : List Event
  pub emitted : es' ≡ es ++ front
  pub all : front ++ map Handshake kept ≡ events l h first
  pub count : next + length kept ≡ (after l h first).next
  pub stands : Stands l (record { taken = (after l h first).taken; next = next }) k'

-- Whether a fragment is added to a slot.
abbrev pub slot_judged : Option Held → Fragment → Result Unit FragmentError
slot_judged None f = inside f
slot_judged (Some h) f = judged h f

-- A fragment is added to the slot.
abbrev pub IsSlotAdded : Option Held → Fragment → Option Held → Type 0
IsSlotAdded None f None = ⊥
IsSlotAdded None f (Some n) = IsHeld f [] n
IsSlotAdded (Some h) f None = ⊥
IsSlotAdded (Some h) f (Some n) = IsAdded h f n

-- The answer is x, or memory ran out.
abbrev pub IsOrMemory : Result Unit FragmentError → Result Unit FragmentError → Type 0
IsOrMemory r x = (r ≡ Err OutOfMemory) ⊎ (r ≡ x)

-- One slot has changed, and no other.
pub record IsChangedAt (old : Kept) (at : ℕ) (new : Kept) : Type 0 where
  pub limits : new.limits ≡ old.limits
  pub next : new.next ≡ old.next
  pub few : (n : ℕ) → length old.slots ≤ n → at < n → length new.slots ≤ n
  pub others : (i : ℕ) → (i ≡ at → ⊥) → slot new i ≡ slot old i

-- These fragments were read, in order.
pub record AreReceived (l : Limits) (h : Received) (fs : List Fragment) (es : List Event)
    (es' : List Event) (k' : Kept) : Type 0 where
  pub events : es' ≡ es ++ events l h fs
  pub stands : Stands l (after l h fs) k'
