-- The next event of a direction.
use Rattle.std.proofs.Common.{
  ◌≡◌,
  ◌≢◌,
  ℕ,
  ◌+◌,
  ◌<◌,
  ◌≤◌,
  ◌==◌,
  ◌⊎◌,
  inl,
  inr,
  List,
  [],
  ◌∷◌,
  ◌++◌,
  length,
  take,
  drop,
  Bool,
  true,
  false,
  cond,
  Option,
  Some,
  None,
  refl,
  sym,
  ◌∙◌,
  ap,
  subst,
  arith,
}
use Rattle.std.specs.Prelude.{IsSome, option_map, nat_le, nat_lt}
use Rattle.std.proofs.lemmas.Bool.{leb-true, ltb-true, eqb-true, eq-eqb, and_parts}
use Rattle.layouts.specs.Bytes.{Bytes}
use Rattle.layouts.specs.declared.result.ErrorKind.{ErrorKind}
use Rattle.std.proofs.Math.Seq.{drop-append_seam}
use Rattle.tls_stream.specs.Frames.{Shape, IsTooLarge, body_length, frame_of, front, up_to}
use Rattle.tls_stream.specs.Records.{message_frame}
use Rattle.tls_stream.proofs.FrontLemmas.{front_joins, shorter_frame}
use Rattle.tls_stream.specs.Held.{joined}
use Rattle.tls_stream.specs.Item.{
  Event,
  Failed,
  Item,
  Fragment,
  Alone,
  Broken,
  Standing,
  after,
  item_of,
  refused,
  wide_record,
}
use Rattle.tls_stream.specs.Messages.{alerts, event_of, messages_of}
use Rattle.tls_stream.specs.Stream.{
  FirstTaken,
  ReadsOnly,
  ReadsTheSame,
  alone,
  alone_in,
  alone_record,
  behind_message,
  behind_record,
  closed,
  events,
  events_of,
  fed,
  first,
  first_message,
  first_record,
  is_above,
  joined_to,
  open_part,
  sent,
  standing,
  too_large_or,
  unread_items,
}
use Rattle.tls_stream.specs.declared.stream.Stream.{Stream}
use Rattle.tls_stream.specs.declared.fault.Fault.TheVariants as fault
use Rattle.tls_stream.proofs.EventLemmas.{message_first, large_first, none_then, takes}
use Rattle.tls_stream.proofs.ItemLemmas.{
  has_header,
  fragment_is,
  fragment_there,
  none_refused,
  none_short,
  record_first,
  refused_first,
}

abbrev pub with_direction : Stream → Bytes × Bytes → Option Event → Option (Event × Stream)
with_direction d x o = option_map (λ e. (e, behind_record d x)) o

abbrev pub with_bytes : Bytes → Option Event → Option (Event × Bytes)
with_bytes y o = option_map (λ e. (e, y)) o

abbrev pub pair_of : Event → Bytes → Option (Event × Bytes)
pair_of v y = Some (v, y)

-- No length is too large.
not_above : (f : Shape) (b : Bytes) → (IsTooLarge f b → ⊥) → is_above f b ≡ false
not_above f b small = go (is_above f b) refl
  where
    go : (t : Bool) → is_above f b ≡ t → is_above f b ≡ false
    go false e = e
    go true e =
        let both = and_parts (nat_le f.header (length b)) (nat_lt f.limit (body_length f b)) e in
        absurd (small (record { has_header = leb-true _ _ both.0; above = ltb-true _ _ both.1 }))

small_or : (f : Shape) (b : Bytes) (others : List Event) → (IsTooLarge f b → ⊥)
    → too_large_or f b others ≡ others
small_or f b others small =
    ap (λ t. cond t (Failed fault.TooLarge ∷ []) others) (not_above f b small)

interrupted : (f : Shape) (b : Bytes) (others : List Event) → b ≢ [] → (IsTooLarge f b → ⊥)
    → closed f b others ≡ Failed fault.Interrupted ∷ []
interrupted f [] others some small = absurd (some refl)
interrupted f (c ∷ b) others some small = small_or f (c ∷ b) (Failed fault.Interrupted ∷ []) small

none_front : (a : Option (Bytes × Bytes)) → frame_of a ≡ None → a ≡ None
none_front None e = refl
none_front (Some x) e = absurd cc

-- The frame that a call found, and what follows it.
pub some_front : (f : Shape) (b y : Bytes) → frame_of (front f b) ≡ Some y
    → (x : Bytes × Bytes) × (front f b ≡ Some x) × (x.0 ≡ y)
some_front f b y e = go (front f b) refl e
  where
    go : (a : Option (Bytes × Bytes)) → front f b ≡ a → frame_of a ≡ Some y
        → (x : Bytes × Bytes) × (front f b ≡ Some x) × (x.0 ≡ y)
    go None g h = absurd cc
    go (Some x) g h = (x, g, cc)

-- The cases of the next event, over plain variables.
module _ (limit kind : ℕ) (st : Standing) (part u : Bytes)
    (none : front (messages_of limit kind) part ≡ None) where
  abbrev shape : Shape
  shape = messages_of limit kind

  item_first : (x : Bytes × Bytes) (i : Item) (s : Bytes) → front wide_record u ≡ Some x
      → item_of st x.0 ≡ i
      → events_of limit kind part (unread_items st (u ++ s))
      ≡ events_of limit kind part (i ∷ unread_items (after st x.0) (x.1 ++ s))
  item_first x i s e is =
      ap (events_of limit kind part)
      (record_first st u s x e ∙ ap (λ i. i ∷ unread_items (after st x.0) (x.1 ++ s)) is)

  pub alone_first : (x : Bytes × Bytes) (a : Event) (s : Bytes) → front wide_record u ≡ Some x
      → item_of st x.0 ≡ Alone a → part ≡ []
      → events_of limit kind part (unread_items st (u ++ s))
      ≡ a ∷ events_of limit kind part (unread_items (after st x.0) (x.1 ++ s))
  alone_first x a s e is empty =
      let others = events_of limit kind [] (unread_items (after st x.0) (x.1 ++ s)) in
      item_first x (Alone a) s e is
      ∙ none_then limit kind (λ l. closed shape l (a ∷ others)) part none
      ∙ ap (λ b. closed shape b (a ∷ others)) empty
      ∙ ap (λ b. a ∷ events_of limit kind b (unread_items (after st x.0) (x.1 ++ s))) (sym empty)

  pub alone_interrupts : (x : Bytes × Bytes) (a : Event) (s : Bytes) → front wide_record u ≡ Some x
      → item_of st x.0 ≡ Alone a → part ≢ [] → (IsTooLarge shape part → ⊥)
      → events_of limit kind part (unread_items st (u ++ s)) ≡ Failed fault.Interrupted ∷ []
  alone_interrupts x a s e is some small =
      let others = events_of limit kind [] (unread_items (after st x.0) (x.1 ++ s)) in
      item_first x (Alone a) s e is
      ∙ none_then limit kind (λ l. closed shape l (a ∷ others)) part none
      ∙ interrupted shape part (a ∷ others) some small

  pub fragment_interrupts : (x : Bytes × Bytes) (k : ℕ) (f s : Bytes) → front wide_record u ≡ Some x
      → item_of st x.0 ≡ Fragment k f → k == kind ≡ false → part ≢ [] → (IsTooLarge shape part → ⊥)
      → events_of limit kind part (unread_items st (u ++ s)) ≡ Failed fault.Interrupted ∷ []
  fragment_interrupts x k f s e is other some small =
      let is' = unread_items (after st x.0) (x.1 ++ s) in
      let others = events_of limit k f is' in
      item_first x (Fragment k f) s e is
      ∙ ap (λ t. cond t (events_of limit kind (part ++ f) is')
      (sent limit kind part ++ closed shape (open_part limit kind part) others)) other
      ∙ none_then limit kind (λ l. closed shape l others) part none
      ∙ interrupted shape part others some small

  pub broken_is : (k : ErrorKind) (is : List Item) → (IsTooLarge shape part → ⊥)
      → events_of limit kind part (Broken k ∷ is) ≡ Failed (fault.Refused k) ∷ []
  broken_is k is small =
      none_then limit kind (λ l. too_large_or shape l (Failed (fault.Refused k) ∷ [])) part none
      ∙ small_or shape part (Failed (fault.Refused k) ∷ []) small

  pub broken_first : (x : Bytes × Bytes) (k : ErrorKind) (s : Bytes) → front wide_record u ≡ Some x
      → item_of st x.0 ≡ Broken k → (IsTooLarge shape part → ⊥)
      → events_of limit kind part (unread_items st (u ++ s)) ≡ Failed (fault.Refused k) ∷ []
  broken_first x k s e is small = item_first x (Broken k) s e is
      ∙ broken_is k (unread_items (after st x.0) (x.1 ++ s)) small

  pub header_refused : (k : ErrorKind) (s : Bytes) → 5 ≤ length u → refused st u ≡ Some k
      → (IsTooLarge shape part → ⊥)
      → events_of limit kind part (unread_items st (u ++ s)) ≡ Failed (fault.Refused k) ∷ []
  header_refused k s enough e small =
      let r = refused_first st u s k enough e in
      ap (events_of limit kind part) r.1 ∙ broken_is k r.0 small

  pub nothing : unread_items st u ≡ [] → (IsTooLarge shape part → ⊥)
      → events_of limit kind part (unread_items st u) ≡ []
  nothing e small =
      ap (events_of limit kind part) e
      ∙ none_then limit kind (λ l. too_large_or shape l []) part none
      ∙ small_or shape part [] small

  pub join_first : (x : Bytes × Bytes) (k : ℕ) (f s : Bytes) → front wide_record u ≡ Some x
      → item_of st x.0 ≡ Fragment k f → (k ≡ kind) ⊎ (part ≡ [])
      → events_of limit kind part (unread_items st (u ++ s))
      ≡ events_of limit k (part ++ f) (unread_items st (x.1 ++ s))
  join_first x k f s e is may =
      item_first x (Fragment k f) s e is
      ∙ go (k == kind) refl may
      ∙ ap (λ st. events_of limit k (part ++ f) (unread_items st (x.1 ++ s)))
      (fragment_is st x.0 k f is).keeps
    where
      go : (t : Bool) → k == kind ≡ t → (k ≡ kind) ⊎ (part ≡ [])
          → cond t (events_of limit kind (part ++ f) (unread_items (after st x.0) (x.1 ++ s)))
          (sent limit kind part ++ closed shape (open_part limit kind part)
          (events_of limit k f (unread_items (after st x.0) (x.1 ++ s))))
          ≡ events_of limit k (part ++ f) (unread_items (after st x.0) (x.1 ++ s))
      go true at may =
          ap (λ j. events_of limit j (part ++ f) (unread_items (after st x.0) (x.1 ++ s)))
          (sym (eqb-true k kind at))
      go false at (inl same) = let e = sym at ∙ eq-eqb k kind same in absurd cc
      go false at (inr empty) =
          none_then limit kind (λ l. closed shape l
          (events_of limit k f (unread_items (after st x.0) (x.1 ++ s)))) part none
          ∙ ap (λ b. closed shape b (events_of limit k f (unread_items (after st x.0) (x.1 ++ s))))
          empty
          ∙ ap (λ b. events_of limit k (b ++ f) (unread_items (after st x.0) (x.1 ++ s)))
          (sym empty)

-- The next event is the first of all.
pub first_event : (d e : Stream) (v : Event) (s : Bytes) → first d ≡ Some (v, e)
    → events (fed d s) ≡ v ∷ events (fed e s)
first_event d e v s is = message (front (messages_of d.limit d.kind) d.held.part) refl is
  where
    by_item : (x : Bytes × Bytes) (b : Bytes) (i : Item)
        → front (messages_of d.limit d.kind) d.held.part ≡ None
        → front wide_record d.held.unread ≡ Some x → d.held.part ≡ b → item_of (standing d) x.0 ≡ i
        → with_direction d x (alone b i) ≡ Some (v, e) → events (fed d s) ≡ v ∷ events (fed e s)
    by_item x [] (Alone a) none f empty item g =
        let same : (a, behind_record d x) ≡ (v, e) = cc in
        alone_first d.limit d.kind (standing d) d.held.part d.held.unread none x a s f item empty
        ∙ ap (λ (p : Event × Stream). p.0 ∷ events (fed p.1 s)) same
    by_item x [] (Fragment k f) none h empty item g = absurd cc
    by_item x [] (Broken k) none h empty item g = absurd cc
    by_item x (c ∷ b) i none h empty item g = absurd cc

    by_record : (a : Option (Bytes × Bytes)) → front (messages_of d.limit d.kind) d.held.part ≡ None
        → front wide_record d.held.unread ≡ a → first_record d a ≡ Some (v, e)
        → events (fed d s) ≡ v ∷ events (fed e s)
    by_record None none f g = absurd cc
    by_record (Some x) none f g =
        by_item x d.held.part (item_of (standing d) x.0) none f refl refl g

    message : (a : Option (Bytes × Bytes)) → front (messages_of d.limit d.kind) d.held.part ≡ a
        → first_message d a ≡ Some (v, e) → events (fed d s) ≡ v ∷ events (fed e s)
    message (Some x) f g =
        let same : (event_of d.kind x.0, behind_message d x) ≡ (v, e) = cc in
        message_first d.limit d.kind d.held.part x f
        (unread_items (standing d) (d.held.unread ++ s))
        ∙ ap (λ (p : Event × Stream). p.0 ∷ events (fed p.1 s)) same
    message None f g = by_record (front wide_record d.held.unread) f refl g

-- When there is a next event.
pub message_ready : (d : Stream) (y : Bytes)
    → Some y ≡ frame_of (front (messages_of d.limit d.kind) d.held.part)
    → IsSome (first d)
message_ready d y e =
    let x = some_front (messages_of d.limit d.kind) d.held.part y (sym e) in
    subst (λ a. IsSome (first_message d a)) (sym x.1) refl

pub large_ready : (d : Stream) → IsTooLarge (messages_of d.limit d.kind) d.held.part
    → ReadsOnly d (Failed fault.TooLarge ∷ [])
large_ready d l s =
    large_first d.limit d.kind d.held.part l (unread_items (standing d) (d.held.unread ++ s))

module _ (d : Stream) (none : None ≡ frame_of (front (messages_of d.limit d.kind) d.held.part))
    (small : IsTooLarge (messages_of d.limit d.kind) d.held.part → ⊥) where
  no_message : front (messages_of d.limit d.kind) d.held.part ≡ None
  no_message = none_front (front (messages_of d.limit d.kind) d.held.part) (sym none)

  pub waits_short : None ≡ frame_of (front wide_record d.held.unread) → length d.held.unread < 5
      → events d ≡ []
  waits_short e short =
      nothing d.limit d.kind (standing d) d.held.part d.held.unread no_message
      (none_short (standing d) d.held.unread (none_front (front wide_record d.held.unread) (sym e))
      short) small

  pub waits_long : None ≡ frame_of (front wide_record d.held.unread) → 5 ≤ length d.held.unread
      → None ≡ refused (standing d) d.held.unread → events d ≡ []
  waits_long e enough r =
      nothing d.limit d.kind (standing d) d.held.part d.held.unread no_message
      (none_refused (standing d) d.held.unread
      (none_front (front wide_record d.held.unread) (sym e)) enough
      (sym r)) small

  pub fails_header : (k : ErrorKind) → 5 ≤ length d.held.unread
      → Some k ≡ refused (standing d) d.held.unread
      → ReadsOnly d (Failed (fault.Refused k) ∷ [])
  fails_header k enough r s =
      header_refused d.limit d.kind (standing d) d.held.part d.held.unread no_message k s enough
      (sym r) small

  pub fails_broken : (y : Bytes) (k : ErrorKind)
      → Some y ≡ frame_of (front wide_record d.held.unread)
      → Broken k ≡ item_of (standing d) y → ReadsOnly d (Failed (fault.Refused k) ∷ [])
  fails_broken y k e is s =
      let x = some_front wide_record d.held.unread y (sym e) in
      broken_first d.limit d.kind (standing d) d.held.part d.held.unread no_message x.0 k s x.1
      (ap (item_of (standing d)) x.2 ∙ sym is) small

  pub ready_alone : (y : Bytes) (a : Event) → Some y ≡ frame_of (front wide_record d.held.unread)
      → Alone a ≡ item_of (standing d) y → d.held.part ≡ [] → IsSome (first d)
  ready_alone y a e is empty =
      let x = some_front wide_record d.held.unread y (sym e) in
      let item : item_of (standing d) x.0.0 ≡ Alone a = ap (item_of (standing d)) x.2 ∙ sym is in
      subst (λ m. IsSome (first_message d m)) (sym no_message)
      (subst (λ r. IsSome (first_record d r)) (sym x.1)
      (subst (λ b. IsSome (with_direction d x.0 (alone b (item_of (standing d) x.0.0)))) (sym empty)
      (subst (λ i. IsSome (with_direction d x.0 (alone [] i))) (sym item) refl)))

  pub fails_alone : (y : Bytes) (a : Event) → Some y ≡ frame_of (front wide_record d.held.unread)
      → Alone a ≡ item_of (standing d) y → d.held.part ≢ []
      → ReadsOnly d (Failed fault.Interrupted ∷ [])
  fails_alone y a e is some s =
      let x = some_front wide_record d.held.unread y (sym e) in
      alone_interrupts d.limit d.kind (standing d) d.held.part d.held.unread no_message x.0 a s x.1
      (ap (item_of (standing d)) x.2 ∙ sym is) some small

  pub fails_fragment : (y : Bytes) (k : ℕ) (f : Bytes)
      → Some y ≡ frame_of (front wide_record d.held.unread)
      → Fragment k f ≡ item_of (standing d) y → k ≢ d.kind → d.held.part ≢ []
      → ReadsOnly d (Failed fault.Interrupted ∷ [])
  fails_fragment y k f e is other some s =
      let x = some_front wide_record d.held.unread y (sym e) in
      fragment_interrupts d.limit d.kind (standing d) d.held.part d.held.unread no_message
      x.0 k f s x.1
      (ap (item_of (standing d)) x.2 ∙ sym is) (differs (k == d.kind) refl) some small
    where
      differs : (t : Bool) → k == d.kind ≡ t → k == d.kind ≡ false
      differs false at = at
      differs true at = absurd (other (eqb-true k d.kind at))

  pub joins : (y : Bytes) (k : ℕ) (f : Bytes) → Some y ≡ frame_of (front wide_record d.held.unread)
      → Fragment k f ≡ item_of (standing d) y → (k ≡ d.kind) ⊎ (d.held.part ≡ [])
      → (5 + length f ≤ length d.held.unread) × ReadsTheSame (joined_to d k (length f)) d
  joins y k f e is may =
      let x = some_front wide_record d.held.unread y (sym e) in
      let item : item_of (standing d) x.0.0 ≡ Fragment k f = ap (item_of (standing d)) x.2
      ∙ sym is in
      let there = fragment_there d.held.unread x.0 f x.1
      (fragment_is (standing d) x.0.0 k f item).bytes_are in (
        there.enough,
        λ s.
            ap (λ b. events_of d.limit k (d.held.part ++ b)
            (unread_items (standing d) (drop (5 + length f) d.held.unread ++ s))) there.bytes_are
            ∙ ap (λ r. events_of d.limit k (d.held.part ++ f) (unread_items (standing d) (r ++ s)))
            there.rest_is
            ∙ sym (join_first d.limit d.kind (standing d) d.held.part d.held.unread no_message x.0 k
            f s x.1 item may),
      )

-- What the calls on the next event answer.
pub message_front : (d : Stream) (y : Bytes)
    → Some y ≡ frame_of (front (messages_of d.limit d.kind) d.held.part)
    → Some (event_of d.kind y) ≡ option_map (λ x. x.0) (first d)
message_front d y e =
    let x = some_front (messages_of d.limit d.kind) d.held.part y (sym e) in
    subst (λ a. Some (event_of d.kind y) ≡ option_map (λ x. x.0) (first_message d a)) (sym x.1)
    (ap (λ y. Some (event_of d.kind y)) (sym x.2))

pub message_taken : (d : Stream) (y : Bytes)
    → Some y ≡ frame_of (front (messages_of d.limit d.kind) d.held.part)
    → FirstTaken (first d) d true (behind_message d (y, drop (length y) d.held.part))
message_taken d y e =
    let x = some_front (messages_of d.limit d.kind) d.held.part y (sym e) in
    let all = front_joins (messages_of d.limit d.kind) d.held.part x.0 x.1 in
    let rest : drop (length y) d.held.part ≡ x.0.1 =
    ap (λ y. drop (length y) d.held.part) (sym x.2) ∙ ap (drop (length x.0.0)) (sym all)
    ∙ drop-append_seam x.0.0 x.0.1 in
    subst (λ a. FirstTaken (first_message d a) d true
    (behind_message d (y, drop (length y) d.held.part))) (sym x.1)
    (refl, ap (λ r. record d { held = record { part = r; unread = d.held.unread } }) rest)

pub message_length : (d : Stream) (y : Bytes)
    → Some y ≡ frame_of (front (messages_of d.limit d.kind) d.held.part)
    → 2 ≤ length y
message_length d y e =
    let x = some_front (messages_of d.limit d.kind) d.held.part y (sym e) in
    let has = has_header (messages_of d.limit d.kind) d.held.part x.0 x.1 in
    go (d.kind == 21) has
  where
    go : (t : Bool) → (cond t (up_to alerts 0) (message_frame d.limit)).header ≤ length
        (some_front (messages_of d.limit d.kind) d.held.part y (sym e)).0.0 → 2 ≤ length y
    go true h = omega
        (arith, h, ap length (some_front (messages_of d.limit d.kind) d.held.part y (sym e)).2)
    go false h =
        omega (
          arith,
          h,
          ap length (some_front (messages_of d.limit d.kind) d.held.part y (sym e)).2,
        )

pub message_within : (d : Stream) (y : Bytes)
    → Some y ≡ frame_of (front (messages_of d.limit d.kind) d.held.part)
    → length y ≤ length d.held.part
message_within d y e = shorter_frame (messages_of d.limit d.kind) d.held.part y e

pub record_length : (u y : Bytes) → Some y ≡ frame_of (front wide_record u) → 5 ≤ length y
record_length u y e =
    let x = some_front wide_record u y (sym e) in
    omega (arith, has_header wide_record u x.0 x.1, ap length x.2)

pub record_within : (u y : Bytes) → Some y ≡ frame_of (front wide_record u) → length y ≤ length u
record_within u y e = shorter_frame wide_record u y e

-- A record with an event by itself.
pub alone_none : (d : Stream) → None ≡ frame_of (front wide_record d.held.unread)
    → None ≡ alone_record d
alone_none d e = ap (alone_in d) (sym (none_front (front wide_record d.held.unread) (sym e)))

alone_open : (b : Bytes) (i : Item) → b ≢ [] → alone b i ≡ None
alone_open [] i some = absurd (some refl)
alone_open (c ∷ b) i some = refl

pub alone_closed : (d : Stream) → d.held.part ≢ [] → None ≡ alone_record d
alone_closed d some = go (front wide_record d.held.unread)
  where
    go : (a : Option (Bytes × Bytes)) → None ≡ alone_in d a
    go None = refl
    go (Some x) = ap (with_bytes x.0) (sym (alone_open d.held.part (item_of (standing d) x.0) some))

pub alone_is : (d : Stream) (y : Bytes) (i : Item)
    → Some y ≡ frame_of (front wide_record d.held.unread)
    → d.held.part ≡ [] → i ≡ item_of (standing d) y
    → with_bytes y (alone [] i) ≡ alone_record d
alone_is d y i e empty is =
    let x = some_front wide_record d.held.unread y (sym e) in
    ap (λ i. with_bytes y (alone [] i)) is
    ∙ ap (λ b. with_bytes y (alone b (item_of (standing d) y))) (sym empty)
    ∙ ap (λ y. with_bytes y (alone d.held.part (item_of (standing d) y))) (sym x.2)
    ∙ ap (alone_in d) (sym x.1)

-- An event by itself is the next one if no message is whole.
same_first : (d : Stream) (a : Option (Bytes × Bytes))
    → option_map (λ (x : Event × Stream). x.0) (first_record d a)
    ≡ option_map (λ (x : Event × Bytes). x.0) (alone_in d a)
same_first d None = refl
same_first d (Some x) = go (alone d.held.part (item_of (standing d) x.0))
  where
    go : (o : Option Event) → option_map (λ (x : Event × Stream). x.0) (with_direction d x o)
        ≡ option_map (λ (x : Event × Bytes). x.0) (with_bytes x.0 o)
    go None = refl
    go (Some e) = refl

pub alone_first_is : (d : Stream) → None ≡ frame_of (front (messages_of d.limit d.kind) d.held.part)
    → option_map (λ (x : Event × Stream). x.0) (first d) ≡ option_map (λ (x : Event × Bytes). x.0)
    (alone_record d)
alone_first_is d none =
    ap (λ a. option_map (λ (x : Event × Stream). x.0) (first_message d a))
    (none_front (front (messages_of d.limit d.kind) d.held.part) (sym none))
    ∙ same_first d (front wide_record d.held.unread)

pub record_taken : (d : Stream) (v : Event) (y : Bytes)
    → None ≡ frame_of (front (messages_of d.limit d.kind) d.held.part)
    → pair_of v y ≡ alone_record d
    → FirstTaken (first d) d true (behind_record d (y, drop (length y) d.held.unread))
record_taken d v y none e =
    subst (λ a. FirstTaken (first_message d a) d true
    (behind_record d (y, drop (length y) d.held.unread)))
    (sym (none_front (front (messages_of d.limit d.kind) d.held.part) (sym none)))
    (by_front (front wide_record d.held.unread) refl e)
  where
    by_event : (x : Bytes × Bytes) (o : Option Event) → front wide_record d.held.unread ≡ Some x
        → pair_of v y ≡ with_bytes x.0 o
        → FirstTaken (with_direction d x o) d true
        (behind_record d (y, drop (length y) d.held.unread))
    by_event x None f e = absurd cc
    by_event x (Some w) f e =
        let both : ◌≡◌ {A = Event × Bytes} (v, y) (w, x.0) = cc in
        let same : y ≡ x.0 = ap (λ (p : Event × Bytes). p.1) both in
        let rest : drop (length y) d.held.unread ≡ x.1 =
        ap (λ y. drop (length y) d.held.unread) same
        ∙ ap (drop (length x.0)) (sym (front_joins wide_record d.held.unread x f))
        ∙ drop-append_seam x.0 x.1 in (
          refl,
          ap (λ y. behind_record d (y, drop (length y) d.held.unread)) same
              ∙ ap (λ r. behind_record d (x.0, r))
              (ap (λ y. drop (length y) d.held.unread) (sym same) ∙ rest),
        )

    by_front : (a : Option (Bytes × Bytes)) → front wide_record d.held.unread ≡ a
        → pair_of v y ≡ alone_in d a
        → FirstTaken (first_record d a) d true (behind_record d (y, drop (length y) d.held.unread))
    by_front None f e = absurd cc
    by_front (Some x) f e = by_event x (alone d.held.part (item_of (standing d) x.0)) f e

pub nothing_taken : (d : Stream) → None ≡ frame_of (front (messages_of d.limit d.kind) d.held.part)
    → None ≡ alone_record d → FirstTaken (first d) d false d
nothing_taken d none e =
    go (first d) (alone_first_is d none ∙ ap (option_map (λ (x : Event × Bytes). x.0)) (sym e))
  where
    go : (a : Option (Event × Stream)) → option_map (λ (x : Event × Stream). x.0) a ≡ None
        → FirstTaken a d false d
    go None e = (refl, refl)
    go (Some x) e = absurd cc

pub record_of_alone : (d : Stream) (v : Event) (y : Bytes) → pair_of v y ≡ alone_record d
    → (5 ≤ length y) × (length y ≤ length d.held.unread)
record_of_alone d v y e = go (front wide_record d.held.unread) refl e
  where
    by_event : (x : Bytes × Bytes) (o : Option Event) → front wide_record d.held.unread ≡ Some x
        → pair_of v y ≡ with_bytes x.0 o → (5 ≤ length y) × (length y ≤ length d.held.unread)
    by_event x None f e = absurd cc
    by_event x (Some w) f e =
        let both : ◌≡◌ {A = Event × Bytes} (v, y) (w, x.0) = cc in
        let same : y ≡ x.0 = ap (λ (p : Event × Bytes). p.1) both in
        let is : Some y ≡ frame_of (front wide_record d.held.unread) =
        ap Some same ∙ ap frame_of (sym f) in
        (record_length d.held.unread y is, record_within d.held.unread y is)

    go : (a : Option (Bytes × Bytes)) → front wide_record d.held.unread ≡ a
        → pair_of v y ≡ alone_in d a
        → (5 ≤ length y) × (length y ≤ length d.held.unread)
    go None f e = absurd cc
    go (Some x) f e = by_event x (alone d.held.part (item_of (standing d) x.0)) f e

pub ruleset next_rules = (
  message_ready,
  large_ready,
  waits_short,
  waits_long,
  fails_header,
  fails_broken,
  ready_alone,
  fails_alone,
  fails_fragment,
  joins,
)

pub ruleset front_rules = (
  message_front,
  message_taken,
  message_length,
  message_within,
  record_length,
  record_within,
  alone_none,
  alone_closed,
  alone_is,
  alone_first_is,
  record_taken,
  nothing_taken,
  record_of_alone,
)

pub empty_is : (b part : Bytes) → b ≡ part → length b ≡ 0 → part ≡ []
empty_is [] part same none = sym same
empty_is (c ∷ b) part same none = absurd (omega (arith, none))

pub some_is : (b part : Bytes) → b ≡ part → (length b ≡ 0 → ⊥) → part ≢ []
some_is b part same some none = some (ap length (same ∙ none))
