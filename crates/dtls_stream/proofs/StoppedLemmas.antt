-- What holds when memory runs out.
use Rattle.std.proofs.Common.{◌≡◌, ℕ, ◌+◌, ◌-◌, ◌<◌, false, Option, Some, None, Result, Ok, Err, List, [], ◌∷◌, ◌++◌, length, take, drop, map, refl, sym, ◌∙◌, ap, subst, arith, get_or, append_assoc, append-nil}
use Rattle.std.specs.Prelude.{OnErr, is_some}
use Rattle.std.proofs.lemmas.List.{drop_more, map-append, take-append-drop}
use Rattle.dtls_stream.specs.Fragments.{Fragment, view_fragment, view_fragments}
use Rattle.dtls_stream.specs.Messages.{
  AreHandedOut,
  AreReceived,
  AreKept,
  Event,
  Handshake,
  Received,
  IsStopped,
  Kept,
  Limits,
  Message,
  Stands,
  after,
  events,
  received,
  received_by,
  message_of,
  of_message,
  emitted,
  emitted_by,
  verdict,
  view_event,
  view_events,
  whole_from,
  with_taken,
}
use Rattle.dtls_stream.specs.declared.event.Event.{Event as Lent}
use Rattle.dtls_stream.specs.declared.fragments.Fragment.{Fragment as Given}
use Rattle.dtls_stream.proofs.EmittedLemmas.{IsOnTheWay, pushed_event, way_events, whole_end}

pub on_err : {P Q E : Type 0} (r : Result Unit E) → OnErr r P → (P → Q) → OnErr r Q
on_err (Ok t) p f = tt
on_err (Err e) p f = f p

-- The next message isn't whole, so no more are delivered.
pub ends_none : (l : Limits) (h : Received) (es es' : List Event) (k : Kept)
    (way : IsOnTheWay l h es es' k) →
    is_some (message_of (of_message (h.next + way.moved) h.taken)) ≡ false
    → AreHandedOut l h es es' k
ends_none l h es es' k way none =
    let no : whole_from (l.ahead - way.moved) (h.next + way.moved) h.taken ≡ [] =
    whole_end (l.ahead - way.moved) (h.next + way.moved) h.taken
    (is_none (message_of (of_message (h.next + way.moved) h.taken)) none) in
    let all : way.moved ≡ length (whole_from l.ahead h.next h.taken) =
    omega (arith, way.count, ap length no) in
    record {
      events = sym (append-nil es') ∙ ap (λ w. es' ++ map Handshake w) (sym no)
          ∙ way_events l h es es' k way;
      stands = subst (λ n. Stands l (record { taken = h.taken; next = h.next + n }) k) all
          way.stands;
    }
  where
    is_none : (o : Option Message) → is_some o ≡ false → o ≡ None
    is_none None e = refl
    is_none (Some m) e = absurd cc

-- The messages that aren't delivered yet are buffered.
pub kept_way : (l : Limits) (h : Received) (es es' : List Event) (k : Kept) → IsOnTheWay l h es es' k
    → AreKept l h es es' k
kept_way l h es es' k way = record {
  kept = whole_from (l.ahead - way.moved) (h.next + way.moved) h.taken;
  next = h.next + way.moved;
  front = way.front;
  emitted = way.emitted;
  all = way.all;
  count = omega (arith, way.count);
  stands = way.stands;
}

-- The fragment was added, and not all that it completes was reported.
pub stopped_out : (l : Limits) (h : Received) (f : Fragment) (es es' : List Event) (k' : Kept)
    → verdict l h f ≡ Ok tt →
    AreKept l (record h { taken = with_taken h f }) es es' k' → IsStopped l h (f ∷ []) es es' k'
unfolding events after
stopped_out l h f es es' k' ok out = record {
  first = f ∷ [];
  behind = [];
  split = refl;
  kept = out.kept;
  next = out.next;
  front = out.front;
  emitted = out.emitted;
  all = out.all ∙ ap (λ v. emitted_by v l h f) (sym ok) ∙ sym (append-nil (emitted l h f));
  count = out.count ∙ ap (λ v. (received_by v l h f).next) (sym ok);
  stands = subst (λ v. Stands l (record { taken = (received_by v l h f).taken; next = out.next }) k')
      (sym ok) out.stands;
}

-- The fragment wasn't added.
pub stopped_none : (l : Limits) (h : Received) (f : Fragment) (es : List Event) (k : Kept)
    → Stands l h k
    → IsStopped l h (f ∷ []) es es k
unfolding events after
stopped_none l h f es k st = record {
  first = [];
  behind = f ∷ [];
  split = refl;
  kept = [];
  next = h.next;
  front = [];
  emitted = sym (append-nil es);
  all = refl;
  count = omega arith;
  stands = st;
}

pub events_append : (l : Limits) (h : Received) (fs gs : List Fragment)
    → events l h (fs ++ gs) ≡ events l h fs ++ events l (after l h fs) gs
unfolding events after
events_append l h [] gs = refl
events_append l h (f ∷ fs) gs =
    ap (λ es. emitted l h f ++ es) (events_append l (received l h f) fs gs)
    ∙ sym (append_assoc (emitted l h f) (events l (received l h f) fs)
    (events l (after l (received l h f) fs) gs))

pub after_append : (l : Limits) (h : Received) (fs gs : List Fragment)
    → after l h (fs ++ gs) ≡ after l (after l h fs) gs
unfolding after
after_append l h [] gs = refl
after_append l h (f ∷ fs) gs = after_append l (received l h f) fs gs

-- The fragments before one that wasn't fully reported.
pub stopped_next : (l : Limits) (h : Received) (fs : List Given) (i : ℕ) (d : Given)
    (es es' es'' : List Event)
    (k k' : Kept) → i < length fs →
    AreReceived l h (view_fragments (take i fs)) es es' k →
    ((l : Limits) (h : Received) → Stands l h k
    → IsStopped l h (view_fragment (get_or fs i d) ∷ []) es' es'' k')
    → IsStopped l h (view_fragments fs) es es'' k'
stopped_next l h fs i d es es' es'' k k' low was receives =
    let gs : List Fragment = view_fragments (take i fs) in
    let f : Fragment = view_fragment (get_or fs i d) in
    let rest : List Fragment = view_fragments (drop (i + 1) fs) in
    let one = receives l (after l h gs) was.stands in
    let all : view_fragments fs ≡ gs ++ f ∷ rest =
    ap view_fragments (sym (take-append-drop i fs))
    ∙ map-append view_fragment (take i fs) (drop i fs)
    ∙ ap (λ xs. gs ++ view_fragments xs) (drop_more fs i d low) in
    let same = sym (after_append l h gs one.first) in
    record {
      first = gs ++ one.first;
      behind = one.behind ++ rest;
      split = all ∙ ap (λ xs. gs ++ (xs ++ rest)) one.split
          ∙ ap (λ xs. gs ++ xs) (append_assoc one.first one.behind rest)
          ∙ sym (append_assoc gs one.first (one.behind ++ rest));
      kept = one.kept;
      next = one.next;
      front = events l h gs ++ one.front;
      emitted = one.emitted ∙ ap (λ e. e ++ one.front) was.events
          ∙ append_assoc es (events l h gs) one.front;
      all = append_assoc (events l h gs) one.front (map Handshake one.kept)
          ∙ ap (λ e. events l h gs ++ e) one.all
          ∙ sym (events_append l h gs one.first);
      count = one.count ∙ ap (λ h. h.next) same;
      stands = subst (λ h. Stands l (record { taken = h.taken; next = one.next }) k') same
          one.stands;
    }

-- What holds in both cases.
pub any_err : {P E : Type 0} (r : Result Unit E) → P → OnErr r P
any_err (Ok t) p = tt
any_err (Err e) p = p

pub stopped_same : (l : Limits) (h : Received) (f : Fragment) (es es' : List Lent) (k k' : Kept)
    → Stands l h k → es' ≡ es
    → k' ≡ k →
    IsStopped l h (f ∷ []) (view_events es) (view_events es') k'
stopped_same l h f es es' k k' st emitted same =
    subst (λ k'. IsStopped l h (f ∷ []) (view_events es) (view_events es') k') (sym same)
    (subst (λ x. IsStopped l h (f ∷ []) (view_events es) (view_events x) k) (sym emitted)
    (stopped_none l h f (view_events es) k st))

pub pushed_on : (es es' es'' : List Lent) (e : Lent) → es' ≡ es → es'' ≡ es' ++ e ∷ []
    → view_events es'' ≡ view_events es ++ view_event e ∷ []
pushed_on es es' es'' e same pushed = pushed_event es es'' e (pushed ∙ ap (λ x. x ++ e ∷ []) same)
