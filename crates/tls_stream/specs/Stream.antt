-- The events in the stream of a direction, given all its bytes: its records, then the messages of
-- their fragments, joined as long as no other record comes between them (RFC 5246, section 6.2.1;
-- RFC 8446, section 5.1).
use Rattle.std.specs.Prelude.{
  ◌≡◌,
  ℕ,
  ◌+◌,
  ◌≤◌,
  Bool,
  true,
  false,
  cond,
  ◌==◌,
  ◌&&◌,
  ◌||◌,
  nat_le,
  nat_lt,
  Option,
  Some,
  None,
  IsSome,
  option_map,
  Result,
  Ok,
  Err,
  List,
  [],
  ◌∷◌,
  ◌++◌,
  length,
  take,
  drop,
  map,
}
use Rattle.layouts.specs.Bytes.{Bytes}
use Rattle.tls_stream.specs.Frames.{Shape, body_length, frame_of, front, frames, left, IsTooLarge}
use Rattle.tls_stream.specs.Messages.{event_of, messages_of}
use Rattle.tls_stream.specs.Held.{Held, joined}
use Rattle.tls_stream.specs.Item.{
  Event,
  Failed,
  Standing,
  Item,
  Fragment,
  Alone,
  Broken,
  items,
  item_of,
  after,
  wide_record,
}
use Rattle.tls_stream.specs.declared.stream.Stream.{Stream}
use Rattle.tls_stream.specs.declared.view.Next.{Next}
use Rattle.tls_stream.specs.declared.view.Next.TheVariants as next
use Rattle.tls_stream.specs.declared.view.Source as rust
use Rattle.tls_stream.specs.declared.view.Source.TheVariants as source
use Rattle.tls_stream.specs.declared.fault.Fault.{Fault}
use Rattle.tls_stream.specs.declared.fault.Fault.TheVariants as fault

-- The messages of joined fragments.
abbrev pub sent : ℕ → ℕ → Bytes → List Event
sent limit kind b = map (event_of kind) (frames (messages_of limit kind) b)

-- What they leave: nothing, or part of a message, perhaps with a length above the limit.
abbrev pub open_part : ℕ → ℕ → Bytes → Bytes
open_part limit kind b = left (messages_of limit kind) b

-- Whether the first header is whole, and its length above the limit.
abbrev pub is_above : Shape → Bytes → Bool
is_above f b = nat_le f.header (length b) && nat_lt f.limit (body_length f b)

abbrev pub too_large_or : Shape → Bytes → List Event → List Event
too_large_or f b others = cond (is_above f b) (Failed fault.TooLarge ∷ []) others

-- Another record follows, and then these events: no message may be open.
abbrev pub closed : Shape → Bytes → List Event → List Event
closed f [] others = others
closed f (b ∷ bs) others = too_large_or f (b ∷ bs) (Failed fault.Interrupted ∷ [])

-- The events of the fragments of a type joined so far, and of what follows them.
abbrev pub events_of : ℕ → ℕ → Bytes → List Item → List Event
events_of limit kind b [] =
    sent limit kind b ++ too_large_or (messages_of limit kind) (open_part limit kind b) []
events_of limit kind b (Fragment k f ∷ is) =
    cond (k == kind) (events_of limit kind (b ++ f) is)
    (sent limit kind b ++ closed (messages_of limit kind) (open_part limit kind b)
    (events_of limit k f is))
events_of limit kind b (Alone e ∷ is) =
    sent limit kind b ++ closed (messages_of limit kind) (open_part limit kind b)
    (e ∷ events_of limit kind [] is)
events_of limit kind b (Broken k ∷ is) =
    sent limit kind b ++ too_large_or (messages_of limit kind) (open_part limit kind b)
    (Failed (fault.Refused k) ∷ [])

-- A fragment joins with a following one of its type.
abbrev pub onto_fragment : ℕ → Bytes → List Item → List Item
onto_fragment k f (Fragment j g ∷ is) =
    cond (j == k) (Fragment k (f ++ g) ∷ is) (Fragment k f ∷ Fragment j g ∷ is)
onto_fragment k f is = Fragment k f ∷ is

-- The fragments joined, as long as no other record comes between them.
abbrev pub joined_items : List Item → List Item
joined_items [] = []
joined_items (Fragment k f ∷ is) = onto_fragment k f (joined_items is)
joined_items (i ∷ is) = i ∷ joined_items is

abbrev pub standing : Stream → Standing
standing d = record { is_tls13 = d.is_tls13; has_changed = d.has_changed }

-- The content of the records that weren't read yet.
abbrev pub unread_items : Standing → Bytes → List Item
unread_items s b = items s (frames wide_record b) (left wide_record b)

-- Nothing was read.
abbrev pub silent : ℕ → Stream
silent limit = record {
  limit = limit;
  is_tls13 = false;
  has_changed = false;
  kind = 22;
  held =
      record { part = []; unread = [] };
}

abbrev pub switched_to_tls13 : Stream → Stream
switched_to_tls13 d = record d { is_tls13 = true }

-- The events that weren't taken yet.
abbrev pub events : Stream → List Event
events d = events_of d.limit d.kind d.held.part (unread_items (standing d) d.held.unread)

-- More bytes.
abbrev pub fed : Stream → Bytes → Stream
fed d s = record d { held = record { part = d.held.part; unread = d.held.unread ++ s } }

-- A record is taken off the stream.
abbrev pub behind_record : Stream → Bytes × Bytes → Stream
behind_record d x = record d {
  held = record { part = d.held.part; unread = x.1 };
  has_changed =
      (after (standing d) x.0).has_changed;
}

-- A message is taken off the part.
abbrev pub behind_message : Stream → Bytes × Bytes → Stream
behind_message d x = record d { held = record { part = x.1; unread = d.held.unread } }

-- A fragment of this type and length is joined to the part.
abbrev pub joined_to : Stream → ℕ → ℕ → Stream
joined_to d kind n = record d { held = joined d.held n; kind = kind }

-- A record's event by itself, if no message is open.
abbrev pub alone : Bytes → Item → Option Event
alone [] (Alone e) = Some e
alone part i = None

-- The event by itself of the next record, with the record's bytes.
abbrev pub alone_in : Stream → Option (Bytes × Bytes) → Option (Event × Bytes)
alone_in d None = None
alone_in d (Some x) = option_map (λ e. (e, x.0)) (alone d.held.part (item_of (standing d) x.0))

abbrev pub alone_record : Stream → Option (Event × Bytes)
alone_record d = alone_in d (front wide_record d.held.unread)

abbrev pub first_record : Stream → Option (Bytes × Bytes) → Option (Event × Stream)
first_record d None = None
first_record d (Some x) =
    option_map (λ e. (e, behind_record d x)) (alone d.held.part (item_of (standing d) x.0))

abbrev pub first_message : Stream → Option (Bytes × Bytes) → Option (Event × Stream)
first_message d (Some x) = Some (event_of d.kind x.0, behind_message d x)
first_message d None = first_record d (front wide_record d.held.unread)

-- The next event, and the stream after it: a message of the part, or a record with an event by
-- itself.
abbrev pub first : Stream → Option (Event × Stream)
first d = first_message d (front (messages_of d.limit d.kind) d.held.part)

-- The bytes of an event: a message at the beginning of the part, or a record at the beginning of
-- the unread stream.
pub data Source : Type 0 where
  OfMessage : Bytes → Source
  OfRecord : Bytes → Source

abbrev pub view_source : rust.Source → Source
view_source (source.Message b) = OfMessage b.now
view_source (source.Record b) = OfRecord b.now

abbrev pub source_by : Stream → Option Bytes → Option (Event × Source)
source_by d (Some y) = Some (event_of d.kind y, OfMessage y)
source_by d None = option_map (λ x. (x.0, OfRecord x.1)) (alone_record d)

-- The next event, and its bytes.
abbrev pub first_source : Stream → Option (Event × Source)
first_source d = source_by d (frame_of (front (messages_of d.limit d.kind) d.held.part))

-- The stream after these bytes are taken.
abbrev pub behind : Stream → Source → Stream
behind d (OfMessage y) = behind_message d (y, drop (length y) d.held.part)
behind d (OfRecord y) = behind_record d (y, drop (length y) d.held.unread)

-- The bytes are long enough, and lie where they are taken from.
abbrev pub Fits : Stream → Source → Type 0
Fits d (OfMessage y) = length y ≤ length d.held.part
Fits d (OfRecord y) = (5 ≤ length y) × (length y ≤ length d.held.unread)

-- The answer when an event is taken: true, or false and no change.
abbrev pub FirstTaken : {A : Type 0} → Option (Event × A) → A → Bool → A → Type 0
FirstTaken (Some x) old taken new = (taken ≡ true) × (new ≡ x.1)
FirstTaken None old taken new = (taken ≡ false) × (new ≡ old)

-- These are the events, whatever follows.
abbrev pub ReadsOnly : Stream → List Event → Type 0
ReadsOnly d es = (s : Bytes) → events (fed d s) ≡ es

-- Both have the same events, whatever follows.
abbrev pub ReadsTheSame : Stream → Stream → Type 0
ReadsTheSame d e = (s : Bytes) → events (fed d s) ≡ events (fed e s)

-- What the answer of StreamView::next means.
abbrev pub IsNext : Stream → Next → Type 0
IsNext d next.Ready = IsSome (first d)
IsNext d next.Waits = events d ≡ []
IsNext d (next.Fails f) = ReadsOnly d (Failed f ∷ [])
IsNext d (next.Joins kind n) = (5 + n ≤ length d.held.unread) × ReadsTheSame (joined_to d kind n) d

-- What the answer of Stream::ready means.
abbrev pub IsReady : Stream → Result Bool Fault → Type 0
IsReady d (Ok true) = IsSome (first d)
IsReady d (Ok false) = events d ≡ []
IsReady d (Err f) = ReadsOnly d (Failed f ∷ [])
