-- One side's stream, in a buffer.
use Rattle.std.proofs.Common.{
  ◌≡◌,
  ℕ,
  ◌+◌,
  ◌<◌,
  ◌≤◌,
  ◌==◌,
  ◌&&◌,
  ◌||◌,
  List,
  [],
  ◌∷◌,
  ◌++◌,
  length,
  take,
  drop,
  Bool,
  true,
  false,
  cond,
  Option,
  Some,
  None,
  Ok,
  Err,
  refl,
  sym,
  subst,
  ◌∙◌,
  ap,
  ap₂,
  append-nil,
  append_assoc,
  arith,
}
use Rattle.std.specs.Prelude.{IfSome, option_map, slice_index}
use Rattle.std.proofs.Math.Seq.{take-append_seam}
use Rattle.std.proofs.lemmas.List.{length-drop, length-take-le}
use Rattle.tls_stream.specs.SideReaders.{IsFed, IsFirst, further_events}
use Rattle.tls_stream.specs.Held.{Held}
use Rattle.tls_stream.specs.Item.{
  Alone,
  ApplicationData,
  Alert,
  Broken,
  ChangeCipherSpec,
  Encrypted,
  Event as StreamEvent,
  Failed,
  Fragment,
  Handshake,
  Heartbeat,
  Item,
  Standing,
  change_in,
  content_type,
  fragment,
  is_change,
  is_sealed,
  item_of,
  or_broken,
  plain_item,
  read_item,
  refused,
  wide_record,
}
use Rattle.tls_stream.specs.Messages.{alerts, event_of, messages_of}
use Rattle.tls_stream.specs.Stream.{
  FirstTaken,
  IsNext,
  OfMessage,
  OfRecord,
  ReadsOnly,
  ReadsTheSame,
  Source,
  alone,
  alone_in,
  alone_record,
  behind,
  events,
  fed,
  first,
  first_source,
  joined_to,
  source_by,
  standing,
}
use Rattle.tls_stream.specs.declared.stream.Stream.{Stream}
use Rattle.tls_stream.specs.declared.fault.Fault.{Fault}
use Rattle.tls_stream.specs.declared.view.Next.TheVariants as next
use Rattle.tls_flow.specs.declared.symbol.Direction.{Direction}
use Rattle.tls_stream.proofs.ItemLemmas.{has_header}
use Rattle.tls_stream.proofs.SourceLemmas.{source_front, source_taken}
use Rattle.tls_stream.proofs.StreamLemmas.{first_event, record_length, some_front}
use Rattle.layouts.specs.Bytes.{Bytes}
use Rattle.layouts.specs.declared.result.ErrorKind.{ErrorKind}
use Rattle.layouts.specs.declared.result.ErrorKind.TheVariants.{Verify}
use Rattle.tls_stream.specs.Frames.{Shape, frame_of, front, up_to}
use Rattle.tls_stream.specs.Records.{message_frame}
use Rattle.tls_stream.proofs.FrontLemmas.{first_in, front_joins}
use Rattle.wispuddera_c.specs.EventContent.{AreBytesOf, Shows}
use Rattle.wispuddera_c.specs.declared.content.ReadEvent.{ReadEvent}
use Rattle.wispuddera_c.specs.Side.{IsNextEvent, StandInFront, Waits, bytes_of, side_reader_of, held_in, standing_by, stream_of}
use Rattle.wispuddera_c.specs.declared.side.ReadingState.{ReadingState}
use Rattle.wispuddera_c.specs.declared.side.Side.{Side}

-- The next event, and the stream after it.
pub source_first : (d : Stream) (v : StreamEvent) (s : Source) → Some (v, s) ≡ first_source d
    → first d ≡ Some (v, behind d s)
source_first d v s is =
    go (first d) refl (source_taken d v s is)
    (ap (option_map (λ (x : StreamEvent × Source). x.0)) is ∙ source_front d)
  where
    go : (a : Option (StreamEvent × Stream)) → first d ≡ a → FirstTaken a d true (behind d s)
        → Some v ≡ option_map (λ x. x.0) a → first d ≡ Some (v, behind d s)
    go None at off same = let bad : true ≡ false = off.0 in absurd cc
    go (Some x) at off same =
        let v_is : v ≡ x.0 = cc in
        at ∙ ap₂ (λ v d. Some (v, d)) (sym v_is) (sym off.1)

-- If there is no next event, nothing is removed.
pub source_none_first : (d : Stream) → None ≡ first_source d → first d ≡ None
source_none_first d is =
    go (first d) refl (ap (option_map (λ (x : StreamEvent × Source). x.0)) is ∙ source_front d)
  where
    go : (a : Option (StreamEvent × Stream)) → first d ≡ a → None ≡ option_map (λ x. x.0) a
        → first d ≡ None
    go None at same = at
    go (Some x) at same = absurd cc

-- The first frame is at the front.
frame_stands : (f : Shape) (b y : Bytes) → Some y ≡ frame_of (front f b) → take (length y) b ≡ y
frame_stands f b y is =
    let x = some_front f b y (sym is) in
    let all : x.0.0 ++ x.0.1 ≡ b = front_joins f b x.0 x.1 in
    ap (take (length y)) (sym all) ∙ ap (λ k. take k (x.0.0 ++ x.0.1)) (ap length (sym x.2))
    ∙ take-append_seam x.0.0 x.0.1 ∙ x.2

-- The bytes of an alert are two.
alert_length : (b y : Bytes) → Some y ≡ frame_of (front (up_to alerts 0) b) → length y ≡ 2
alert_length b y is =
    let x = some_front (up_to alerts 0) b y (sym is) in
    let at = first_in (up_to alerts 0) b x.0 x.1 in
    ap length (sym x.2) ∙ ap length at.frame_is ∙ length-take-le 2 b at.is_whole

-- A message is the event of its bytes.
message_shown : (limit kind : ℕ) (b y : Bytes) → Some y ≡ frame_of (front (messages_of limit kind) b)
    → AreBytesOf (event_of kind y) y
message_shown limit kind b y is = go (kind == 21) is
  where
    go : (t : Bool) → Some y ≡ frame_of (front (cond t (up_to alerts 0) (message_frame limit)) b)
        → AreBytesOf (cond t
        (Alert (record { level = slice_index y 0; description = slice_index y 1 }))
        (Handshake y)) y
    go true at = (alert_length b y at, refl, refl)
    go false at =
        let x = some_front (message_frame limit) b y (sym at) in
        let long : 4 ≤ length x.0.0 = has_header (message_frame limit) b x.0 x.1 in
        (subst (λ z. 4 ≤ length z) x.2 long, refl)

-- A record is the event of its bytes, if it is one by itself.
abbrev IsShown : Item → Bytes → Type 0
IsShown (Alone v) r = AreBytesOf v r
IsShown (Fragment k f) r = Unit {0}
IsShown (Broken k) r = Unit {0}

plain_shown : (changes is_right is_data beats : Bool) (kind : ℕ) (r : Bytes) → 5 ≤ length r
    → IsShown (cond changes (cond is_right (Alone ChangeCipherSpec) (Broken Verify))
    (cond is_data (Alone (ApplicationData (drop 5 r)))
    (cond beats (Alone (Heartbeat (drop 5 r))) (Fragment kind (drop 5 r))))) r
plain_shown true true is_data beats kind r long = long
plain_shown true false is_data beats kind r long = tt
plain_shown false is_right true beats kind r long = (long, refl)
plain_shown false is_right false true kind r long = (long, refl)
plain_shown false is_right false false kind r long = tt

read_shown : (refusal : Option ErrorKind) (sealed : Bool) (r : Bytes) → 5 ≤ length r
    → IsShown (or_broken refusal (read_item sealed r)) r
read_shown (Some k) sealed r long = tt
read_shown None true r long = (long, refl)
read_shown None false r long =
    plain_shown (content_type r == 20) (is_change (fragment r)) (content_type r == 23)
    (content_type r == 24)
    (content_type r) r long

record_shown : (s : Standing) (r : Bytes) (v : StreamEvent) → 5 ≤ length r → item_of s r ≡ Alone v
    → AreBytesOf v r
record_shown s r v long is =
    subst (λ i. IsShown i r) is (read_shown (refused s r) (is_sealed s r) r long)

abbrev with_source : StreamEvent × Bytes → StreamEvent × Source
with_source y = (y.0, OfRecord y.1)

abbrev with_bytes : Bytes → StreamEvent → StreamEvent × Bytes
with_bytes r e = (e, r)

-- The event is that of its bytes, which are at the front.
pub record IsSource (d : Stream) (v : StreamEvent) (s : Source) : Type 0 where
  pub content : AreBytesOf v (bytes_of s)
  pub stands : StandInFront d.held s

record_source : (d : Stream) (v : StreamEvent) (s : Source) (x : Bytes × Bytes)
    → front wide_record d.held.unread ≡ Some x
    → (b : Bytes) (i : Item) → item_of (standing d) x.0 ≡ i
    → option_map with_source (option_map (with_bytes x.0) (alone b i)) ≡ Some (v, s)
    → IsSource d v s
record_source d v s x at [] (Alone e) is g =
    let both : ◌≡◌ {A = StreamEvent × Source} (e, OfRecord x.0) (v, s) = cc in
    let here : Some x.0 ≡ frame_of (front wide_record d.held.unread) = ap frame_of (sym at) in
    let long : 5 ≤ length x.0 = record_length d.held.unread x.0 here in
    subst (λ (p : StreamEvent × Source). IsSource d p.0 p.1) both
    (record {
      content = record_shown (standing d) x.0 e long is;
      stands = (long, frame_stands wide_record d.held.unread x.0 here);
    })
record_source d v s x at [] (Fragment k f) is g = absurd cc
record_source d v s x at [] (Broken k) is g = absurd cc
record_source d v s x at (c ∷ b) i is g = absurd cc

alone_source : (d : Stream) (v : StreamEvent) (s : Source) (a : Option (Bytes × Bytes))
    → front wide_record d.held.unread ≡ a
    → option_map with_source (alone_in d a) ≡ Some (v, s) → IsSource d v s
alone_source d v s None at g = absurd cc
alone_source d v s (Some x) at g =
    record_source d v s x at d.held.part (item_of (standing d) x.0) refl g

frame_source : (d : Stream) (v : StreamEvent) (s : Source) (a : Option Bytes)
    → frame_of (front (messages_of d.limit d.kind) d.held.part) ≡ a → source_by d a ≡ Some (v, s)
    → IsSource d v s
frame_source d v s (Some y) at g =
    let both : ◌≡◌ {A = StreamEvent × Source} (event_of d.kind y, OfMessage y) (v, s) = cc in
    subst (λ (p : StreamEvent × Source). IsSource d p.0 p.1) both
    (record {
      content = message_shown d.limit d.kind d.held.part y (sym at);
      stands = frame_stands (messages_of d.limit d.kind) d.held.part y (sym at);
    })
frame_source d v s None at g = alone_source d v s (front wide_record d.held.unread) refl g

pub source_is : (d : Stream) (v : StreamEvent) (s : Source) → Some (v, s) ≡ first_source d
    → IsSource d v s
source_is d v s is =
    frame_source d v s (frame_of (front (messages_of d.limit d.kind) d.held.part)) refl (sym is)

-- The further events of a side that no fault ended.
reads_on : (k : ReadingState) (b : Bytes) (s : Side) (t : Bytes) → s.is_over ≡ false
    → further_events (side_reader_of k b s) t ≡ events (fed (stream_of k b s) t)
reads_on k b s t is_active =
    ap (λ o. further_events
    (record {
      direction = record { stream = stream_of k b s; fault = None };
      standing =
          standing_by o;
    }) t)
    is_active

fed_nothing : (d : Stream) → events (fed d []) ≡ events d
fed_nothing d =
    ap (λ u. events (record d { held = record { part = d.held.part; unread = u } }))
    (append-nil d.held.unread)

-- A side that was made ready.
module _ (k : ReadingState) (b b' : Bytes) (s s' : Side) (is_active : s.is_over ≡ false)
    (over : s'.is_over ≡ s.is_over)
    (same : ReadsTheSame (stream_of k b' s') (stream_of k b s)) where
  shown_before : (t : Bytes) → further_events (side_reader_of k b s) t ≡ events (fed (stream_of k b' s') t)
  shown_before t = reads_on k b s t is_active ∙ sym (same t)

  pub received_first : (v : StreamEvent) (n : Side) → first (stream_of k b' s') ≡ Some (v, stream_of k b' n)
      → n.is_over ≡ s'.is_over → IsFirst (side_reader_of k b s) v (side_reader_of k b' n)
  received_first v n is still = λ t.
      shown_before t ∙ first_event (stream_of k b' s') (stream_of k b' n) v t is
      ∙ ap (λ vs. v ∷ vs) (sym (reads_on k b' n t (still ∙ over ∙ is_active)))

  pub event_of_fault : (f : Fault) → ReadsOnly (stream_of k b' s') (Failed f ∷ [])
      → IsFirst (side_reader_of k b s) (Failed f) (side_reader_of k b' (record s' { is_over = true }))
  event_of_fault f only = λ t. shown_before t ∙ only t

  pub waits : events (stream_of k b' s') ≡ [] → Waits k b s b' s'
  waits none = record {
    nothing = shown_before [] ∙ fed_nothing (stream_of k b' s') ∙ none;
    same = λ t. shown_before t ∙ sym (reads_on k b' s' t (over ∙ is_active));
  }

-- Another piece of a side.
pub fed_twice : (d : Stream) (p t : Bytes) → events (fed (fed d p) t) ≡ events (fed d (p ++ t))
fed_twice d p t =
    ap (λ u. events (record d { held = record { part = d.held.part; unread = u } }))
    (append_assoc d.held.unread p t)

pub fed_is : (k : ReadingState) (b b' : Bytes) (s s' : Side) (p : Bytes) → s.is_over ≡ false
    → s'.is_over ≡ s.is_over
    → stream_of k b' s' ≡ fed (stream_of k b s) p → IsFed (side_reader_of k b s) p (side_reader_of k b' s')
fed_is k b b' s s' p is_active over is = λ t.
    reads_on k b s (p ++ t) is_active ∙ sym (fed_twice (stream_of k b s) p t)
    ∙ ap (λ d. events (fed d t)) (sym is) ∙ sym (reads_on k b' s' t (over ∙ is_active))

pub fed_over : (k : ReadingState) (b : Bytes) (s : Side) (p : Bytes) → s.is_over ≡ true
    → IsFed (side_reader_of k b s) p (side_reader_of k b s)
fed_over k b s p ended = λ t.
    let silent : (u : Bytes) → further_events (side_reader_of k b s) u ≡ [] = λ u.
    ap (λ o. further_events
    (record {
      direction = record { stream = stream_of k b s; fault = None };
      standing =
          standing_by o;
    }) u)
    ended in
    silent (p ++ t) ∙ sym (silent t)

-- A fragment is joined as required.
pub joins_next : (k : ReadingState) (b b' : Bytes) (s s' : Side) (d : Stream) (kind n : ℕ)
    → d ≡ stream_of k b s
    → IsNext d (next.Joins kind n)
    → stream_of k b' s' ≡ joined_to (stream_of k b s) kind n
    → (length (held_in b' s').unread < length (held_in b s).unread)
    × ReadsTheSame (stream_of k b' s') (stream_of k b s)
joins_next k b b' s s' d kind n view is joined =
    let at : IsNext (stream_of k b s) (next.Joins kind n) =
    subst (λ d. IsNext d (next.Joins kind n)) view is in
    let left : (held_in b' s').unread ≡ drop (5 + n) (held_in b s).unread =
    ap (λ (d : Stream). d.held.unread) joined in
    let enough : 5 + n ≤ length (held_in b s).unread = at.0 in (
      omega (arith, ap length left, length-drop (5 + n) (held_in b s).unread, enough),
      λ t. ap (λ d. events (fed d t)) joined ∙ at.1 t,
    )

-- What was removed from a side that was made ready is its first event.
pub some_received : (side : Direction) (k : ReadingState) (b b' : Bytes) (s s' n : Side)
    (r : Option ReadEvent)
    → s.is_over ≡ false
    → s'.is_over ≡ s.is_over → ReadsTheSame (stream_of k b' s') (stream_of k b s)
    → n.is_over ≡ s'.is_over
    → IfSome r (λ h. (v : StreamEvent) × (first (stream_of k b' s') ≡ Some (v, stream_of k b' n))
    × Shows side b' h v)
    → IfSome r (λ h. IsNextEvent side k b s b' n h)
some_received side k b b' s s' n None is_active over same still is = is
some_received side k b b' s s' n (Some h) is_active over same still is =
    (is.0, received_first k b b' s s' is_active over same is.0 n is.1 still, is.2)
