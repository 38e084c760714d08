-- The events of fragments.
use Rattle.std.proofs.Common.{
  ◌≡◌,
  ℕ,
  zero,
  suc,
  ◌+◌,
  ◌-◌,
  ◌<◌,
  ◌≤◌,
  Some,
  None,
  Option,
  Result,
  Ok,
  Err,
  List,
  [],
  ◌∷◌,
  ◌++◌,
  length,
  take,
  map,
  refl,
  sym,
  ◌∙◌,
  ap,
  subst,
  arith,
  get_or,
  inl,
  inr,
  append_assoc,
  append-nil,
}
use Rattle.std.specs.Prelude.{OnOk, is_some, if◌then◌else◌}
use Rattle.std.specs.Option.{option_map}
use Rattle.std.proofs.lemmas.List.{map-append, take_all}
use Rattle.std.proofs.Math.Seq.{take-suc}
use Rattle.dtls_stream.specs.Fragments.{Fragment, Held, view_fragment, view_fragments}
use Rattle.dtls_stream.specs.Messages.{
  AreHandedOut,
  AreReceived,
  Event,
  Handshake,
  Received,
  IsReceived,
  IsOrMemory,
  IsPart,
  Kept,
  Limits,
  Message,
  Refused,
  Stands,
  after,
  events,
  followed,
  received,
  received_by,
  message_of,
  of_message,
  emitted,
  emitted_by,
  verdict,
  view_event,
  view_events,
  view_message,
  whole_from,
  with_taken,
}
use Rattle.dtls_stream.specs.declared.event.Event.{Event as Lent}
use Rattle.dtls_stream.specs.declared.event.Message.{Message as Owned}
use Rattle.dtls_stream.specs.declared.fragments.Fragment.{Fragment as Given}
use Rattle.dtls_stream.specs.declared.fragments.FragmentError.{FragmentError}
use Rattle.dtls_stream.specs.declared.fragments.FragmentError.TheVariants.{OutOfMemory}

-- Beyond the limit nothing was added.
pub none_beyond : (l : Limits) (h : Received) (k : Kept) → Stands l h k
    → of_message (h.next + l.ahead) h.taken ≡ []
none_beyond l h k st = go (of_message (h.next + l.ahead) h.taken)
    (subst (IsPart (of_message (h.next + l.ahead) h.taken)) (past k.slots l.ahead st.few)
    (st.each l.ahead))
  where
    past : (xs : List (Option Held)) (n : ℕ) → length xs ≤ n → get_or xs n None ≡ None
    past [] n e = refl
    past (x ∷ xs) zero e = absurd (omega (arith, e))
    past (x ∷ xs) (suc n) e = past xs n (omega (arith, e))

    go : (gs : List Fragment) → IsPart gs None → gs ≡ []
    go [] is = refl
    go (g ∷ gs) is = absurd is

-- The messages delivered so far, and those that follow.
pub record IsOnTheWay (l : Limits) (h : Received) (es : List Event) (es' : List Event)
    (k : Kept) : Type 0 where
  pub moved : ℕ
  pub few : moved ≤ l.ahead
  pub stands : Stands l (record h { next = h.next + moved }) k
  pub front : List Event
  pub emitted : es' ≡ es ++ front
  pub all : front ++ map Handshake (whole_from (l.ahead - moved) (h.next + moved) h.taken)
      ≡ map Handshake (whole_from l.ahead h.next h.taken)
  pub count : moved + length (whole_from (l.ahead - moved) (h.next + moved) h.taken)
      ≡ length (whole_from l.ahead h.next h.taken)
  pub last : of_message (h.next + l.ahead) h.taken ≡ []

pub way_events : (l : Limits) (h : Received) (es es' : List Event) (k : Kept)
    → (way : IsOnTheWay l h es es' k) →
    es' ++ map Handshake (whole_from (l.ahead - way.moved) (h.next + way.moved) h.taken)
    ≡ es ++ map Handshake (whole_from l.ahead h.next h.taken)
way_events l h es es' k way =
    let rest : List Event =
    map Handshake (whole_from (l.ahead - way.moved) (h.next + way.moved) h.taken) in
    ap (λ e. e ++ rest) way.emitted ∙ append_assoc es way.front rest ∙ ap (λ e. es ++ e) way.all

pub begins : (l : Limits) (h : Received) (es : List Event) (k : Kept) → Stands l h k
    → IsOnTheWay l h es es k
begins l h es k st =
    let fuel : l.ahead - 0 ≡ l.ahead = omega arith in
    let next : h.next + 0 ≡ h.next = omega arith in
    let same : whole_from (l.ahead - 0) (h.next + 0) h.taken ≡ whole_from l.ahead h.next h.taken =
    ap (λ n. whole_from n (h.next + 0) h.taken) fuel
    ∙ ap (λ n. whole_from l.ahead n h.taken) next in
    record {
      moved = 0;
      few = omega arith;
      stands = subst (λ n. Stands l (record { taken = h.taken; next = n }) k) (sym next) st;
      front = [];
      emitted = sym (append-nil es);
      all = ap (map Handshake) same;
      count = omega (arith, ap length same);
      last = none_beyond l h k st;
    }

whole_step : (n next : ℕ) (ts : List Fragment) (m : Message) → 0 < n
    → message_of (of_message next ts) ≡ Some m
    → whole_from n next ts ≡ m ∷ whole_from (n - 1) (next + 1) ts
whole_step zero next ts m h e = absurd (omega (arith, h))
whole_step (suc n) next ts m h e =
    ap (λ o. followed o (whole_from n (suc next) ts)) e
    ∙ ap (λ j. m ∷ whole_from j (suc next) ts) (omega arith)
    ∙ ap (λ j. m ∷ whole_from (suc n - 1) j ts) (omega arith)

pub whole_end : (n next : ℕ) (ts : List Fragment) → message_of (of_message next ts) ≡ None
    → whole_from n next ts ≡ []
whole_end zero next ts e = refl
whole_end (suc n) next ts e = ap (λ o. followed o (whole_from n (suc next) ts)) e

-- One more message is delivered.
pub one_more : (l : Limits) (h : Received) (es es' es'' : List Event) (k new : Kept) (m : Owned)
    → (way : IsOnTheWay l h es es' k) →
    Some (view_message m) ≡ message_of (of_message (h.next + way.moved) h.taken) →
    Stands l (record { taken = h.taken; next = (h.next + way.moved) + 1 }) new →
    es'' ≡ es' ++ Handshake (view_message m) ∷ [] → IsOnTheWay l h es es'' new
one_more l h es es' es'' k new m way is st pushed = go (sized (l.ahead - way.moved) refl)
  where
    sized : (n : ℕ) → l.ahead - way.moved ≡ n → 0 < l.ahead - way.moved
    sized zero e =
        let none : of_message (h.next + way.moved) h.taken ≡ [] =
        ap (λ n. of_message n h.taken) (omega (arith, e, way.few)) ∙ way.last in
        let no : Some (view_message m) ≡ None = is ∙ ap message_of none in
        absurd cc
    sized (suc n) e = omega (arith, e)

    go : 0 < l.ahead - way.moved → IsOnTheWay l h es es'' new
    go some =
        let steps : whole_from (l.ahead - way.moved) (h.next + way.moved) h.taken
        ≡ view_message m ∷ whole_from (l.ahead - way.moved - 1) (h.next + way.moved + 1) h.taken =
        whole_step (l.ahead - way.moved) (h.next + way.moved) h.taken (view_message m) some
        (sym is) in
        let less : l.ahead - (way.moved + 1) ≡ l.ahead - way.moved - 1 = omega (arith, some) in
        let next : h.next + (way.moved + 1) ≡ h.next + way.moved + 1 = omega arith in
        let rest : whole_from (l.ahead - (way.moved + 1)) (h.next + (way.moved + 1)) h.taken
        ≡ whole_from (l.ahead - way.moved - 1) (h.next + way.moved + 1) h.taken =
        ap (λ n. whole_from n (h.next + (way.moved + 1)) h.taken) less
        ∙ ap (λ n. whole_from (l.ahead - way.moved - 1) n h.taken) next in
        record {
          moved = way.moved + 1;
          few = omega (arith, some);
          stands = subst (λ n. Stands l (record { taken = h.taken; next = n }) new) (sym next) st;
          front = way.front ++ Handshake (view_message m) ∷ [];
          emitted = pushed ∙ ap (λ e. e ++ Handshake (view_message m) ∷ []) way.emitted
              ∙ append_assoc es way.front (Handshake (view_message m) ∷ []);
          all = append_assoc way.front (Handshake (view_message m) ∷ [])
              (map Handshake
              (whole_from (l.ahead - (way.moved + 1)) (h.next + (way.moved + 1)) h.taken))
              ∙ ap (λ w. way.front ++ Handshake (view_message m) ∷ map Handshake w) rest
              ∙ ap (λ w. way.front ++ map Handshake w) (sym steps)
              ∙ way.all;
          count = omega (arith, way.count, ap length steps, ap length rest);
          last = way.last;
        }

-- No more messages.
pub ends : (l : Limits) (h : Received) (es es' : List Event) (k new : Kept) (o : Option Owned)
    → (way : IsOnTheWay l h es es' k) → o ≡ None →
    option_map view_message o ≡ message_of (of_message (h.next + way.moved) h.taken) →
    Stands l (record {
      taken = h.taken;
      next = if is_some o then
          h.next + way.moved + 1 else h.next + way.moved;
    }) new
    → AreHandedOut l h es es' new
ends l h es es' k new o way none is st =
    let no : whole_from (l.ahead - way.moved) (h.next + way.moved) h.taken ≡ [] =
    whole_end (l.ahead - way.moved) (h.next + way.moved) h.taken
    (sym is ∙ ap (option_map view_message) none) in
    let all : way.moved ≡ length (whole_from l.ahead h.next h.taken) =
    omega (arith, way.count, ap length no) in
    record {
      events = sym (append-nil es') ∙ ap (λ w. es' ++ map Handshake w) (sym no)
          ∙ way_events l h es es' k way;
      stands = subst (λ n. Stands l (record { taken = h.taken; next = h.next + n }) new) all
          (subst (λ (o : Option Owned). Stands l
          (record {
            taken = h.taken;
            next = if is_some o then
                h.next + way.moved + 1 else h.next + way.moved;
          }) new)
          none st);
    }

-- A fragment that is added, or refused.
pub received_ok : (l : Limits) (h : Received) (f : Fragment) (es es' : List Event) (k' : Kept)
    → verdict l h f ≡ Ok tt →
    AreHandedOut l (record h { taken = with_taken h f }) es es' k' → IsReceived l h f es es' k'
received_ok l h f es es' k' ok out = record {
  events = out.events ∙ ap (λ v. es ++ emitted_by v l h f) (sym ok);
  stands = subst (λ v. Stands l (received_by v l h f) k') (sym ok) out.stands;
}

pub received_err : (l : Limits) (h : Received) (f : Fragment) (e : FragmentError) (es es' : List Event)
    (k' : Kept)
    → verdict l h f ≡ Err e →
    es' ≡ es ++ Refused f.message_seq e ∷ [] → Stands l h k' → IsReceived l h f es es' k'
received_err l h f e es es' k' err pushed st = record {
  events = pushed ∙ ap (λ v. es ++ emitted_by v l h f) (sym err);
  stands = subst (λ v. Stands l (received_by v l h f) k') (sym err) st;
}

pub not_memory_ok : (t : Unit) (v : Result Unit FragmentError) → IsOrMemory (Ok t) v → v ≡ Ok tt
not_memory_ok t v (inl e) = absurd cc
not_memory_ok t v (inr e) = sym e

pub not_memory_err : (e : FragmentError) (v : Result Unit FragmentError) → (e ≡ OutOfMemory → ⊥)
    → IsOrMemory (Err e) v
    → v ≡ Err e
not_memory_err e v not (inl s) = let same : e ≡ OutOfMemory = cc in absurd (not same)
not_memory_err e v not (inr s) = sym s

-- One more fragment.
pub events_more : (l : Limits) (h : Received) (fs : List Fragment) (f : Fragment)
    → events l h (fs ++ f ∷ []) ≡ events l h fs ++ emitted l (after l h fs) f
unfolding events after
events_more l h [] f = append-nil (emitted l h f)
events_more l h (g ∷ fs) f = ap (λ es. emitted l h g ++ es) (events_more l (received l h g) fs f)
    ∙ sym (append_assoc (emitted l h g) (events l (received l h g) fs)
    (emitted l (after l (received l h g) fs) f))

pub after_more : (l : Limits) (h : Received) (fs : List Fragment) (f : Fragment)
    → after l h (fs ++ f ∷ []) ≡ received l (after l h fs) f
unfolding after
after_more l h [] f = refl
after_more l h (g ∷ fs) f = after_more l (received l h g) fs f

pub views_next : (fs : List Given) (i : ℕ) (d : Given) → i < length fs
    → view_fragments (take (i + 1) fs) ≡ view_fragments (take i fs) ++ view_fragment
    (get_or fs i d) ∷ []
views_next fs i d h =
    let one : i + 1 ≡ suc i = omega arith in
    ap (λ k. view_fragments (take k fs)) one ∙ ap view_fragments (take-suc fs i d h)
    ∙ map-append view_fragment (take i fs) (get_or fs i d ∷ [])

pub received_none : (l : Limits) (h : Received) (es : List Event) (k : Kept) → Stands l h k
    → AreReceived l h [] es es k
unfolding events after
received_none l h es k st = record { events = sym (append-nil es); stands = st }

pub received_next : (l : Limits) (h : Received) (fs : List Given) (i : ℕ) (d : Given)
    (es es' es'' : List Event) (k k' : Kept)
    → i < length fs →
    AreReceived l h (view_fragments (take i fs)) es es' k →
    ((l : Limits) (h : Received) → Stands l h k
    → IsReceived l h (view_fragment (get_or fs i d)) es' es'' k')
    → AreReceived l h (view_fragments (take (i + 1) fs)) es es'' k'
received_next l h fs i d es es' es'' k k' low was receives =
    let gs : List Fragment = view_fragments (take i fs) in
    let f : Fragment = view_fragment (get_or fs i d) in
    let one = receives l (after l h gs) was.stands in
    subst (λ gs. AreReceived l h gs es es'' k') (sym (views_next fs i d low)) (record {
      stands = subst (λ h. Stands l h k') (sym (after_more l h gs f)) one.stands;
      events = one.events ∙ ap (λ e. e ++ emitted l (after l h gs) f) was.events
          ∙ append_assoc es (events l h gs) (emitted l (after l h gs) f)
          ∙ ap (λ e. es ++ e) (sym (events_more l h gs f));
    })

pub pushed_event : (es es' : List Lent) (e : Lent) → es' ≡ es ++ e ∷ []
    → view_events es' ≡ view_events es ++ view_event e ∷ []
pushed_event es es' e p = ap view_events p ∙ map-append view_event es (e ∷ [])

pub on_ok : {P Q E : Type 0} (r : Result Unit E) → OnOk r P → (P → Q) → OnOk r Q
on_ok (Ok t) p f = f p
on_ok (Err e) p f = tt

pub received_all : (l : Limits) (h : Received) (fs : List Given) (i : ℕ) (es es' : List Event) (k : Kept)
    → length fs ≤ i
    → AreReceived l h (view_fragments (take i fs)) es es' k → AreReceived l h (view_fragments fs) es es' k
received_all l h fs i es es' k past was =
    subst (λ gs. AreReceived l h (view_fragments gs) es es' k) (take_all i fs past) was
