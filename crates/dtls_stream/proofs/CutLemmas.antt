-- What holds when memory runs out.
use Rattle.std.proofs.Common.{
  ◌≡◌,
  ℕ,
  List,
  [],
  ◌∷◌,
  ◌++◌,
  take,
  drop,
  map,
  refl,
  sym,
  ◌∙◌,
  ap,
  subst,
  arith,
  append_assoc,
  append-nil,
}
use Rattle.std.proofs.lemmas.List.{map-append, take-append-drop}
use Rattle.dtls_stream.specs.Fragments.{Fragment}
use Rattle.dtls_stream.specs.Messages.{
  Alert,
  AreReceived,
  ChangeCipherSpec,
  Encrypted,
  Event,
  Failed,
  Handshake,
  Received,
  IsStopped,
  Kept,
  Limits,
  Message,
  Refused,
  Stands,
  after,
  events,
  messages,
}
use Rattle.dtls_stream.proofs.StoppedLemmas.{after_append, events_append}
use Rattle.dtls_stream.specs.Datagrams.{AreEmittedInPart, IsCut}

-- Messages among events.
pub messages_append : (es fs : List Event) → messages (es ++ fs) ≡ messages es ++ messages fs
messages_append [] fs = refl
messages_append (Handshake m ∷ es) fs = ap (λ ms. m ∷ ms) (messages_append es fs)
messages_append (ChangeCipherSpec ∷ es) fs = messages_append es fs
messages_append (Alert a ∷ es) fs = messages_append es fs
messages_append (Encrypted r ∷ es) fs = messages_append es fs
messages_append (Refused seq e ∷ es) fs = messages_append es fs
messages_append (Failed kind ∷ es) fs = messages_append es fs

messages_emitted : (ms : List Message) → messages (map Handshake ms) ≡ ms
messages_emitted [] = refl
messages_emitted (m ∷ ms) = ap (λ ms. m ∷ ms) (messages_emitted ms)

pub messages_joined : (l : Limits) (h : Received) (fs gs : List Fragment) →
    messages (events l h fs) ++ messages (events l (after l h fs) gs) ≡ messages
    (events l h (fs ++ gs))
messages_joined l h fs gs =
    sym (messages_append (events l h fs) (events l (after l h fs) gs))
    ∙ ap messages (sym (events_append l h fs gs))

front_none : (ms ns : List Message) → ms ++ ns ≡ [] → ms ≡ []
front_none [] ns e = refl
front_none (m ∷ ms) ns e = absurd cc

-- Nothing was added or reported.
pub cut_none : (l : Limits) (h : Received) (fs : List Fragment) (all es : List Event) (k : Kept)
    → Stands l h k
    → IsCut l h fs all es es k
unfolding events after
cut_none l h fs all es k st = record {
  first = [];
  behind = fs;
  split = refl;
  front = [];
  emitted = sym (append-nil es);
  kept = [];
  none_lost = refl;
  not_emitted = all;
  in_order = refl;
  next = h.next;
  count = omega arith;
  stands = st;
}

pub cut_same : (l : Limits) (h : Received) (fs : List Fragment) (all es es' : List Event) (k : Kept)
    → es' ≡ es
    → Stands l h k → IsCut l h fs all es es' k
cut_same l h fs all es es' k same st =
    subst (λ x. IsCut l h fs all es x k) (sym same) (cut_none l h fs all es k st)

-- It has no fragments and no messages.
pub cut_part : (l : Limits) (h : Received) (all es es' : List Event) (k : Kept) → messages all ≡ []
    → AreEmittedInPart all es es' → Stands l h k → IsCut l h [] all es es' k
unfolding events after
cut_part l h all es es' k none was st = record {
  first = [];
  behind = [];
  split = refl;
  front = was.front;
  emitted = was.emitted;
  kept = [];
  none_lost = append-nil (messages was.front)
      ∙ front_none (messages was.front) (messages was.not_emitted)
      (sym (messages_append was.front was.not_emitted) ∙ ap messages (sym was.split) ∙ none);
  not_emitted = was.not_emitted;
  in_order = ap (λ x. x ++ was.not_emitted) (append-nil was.front) ∙ sym was.split;
  next = h.next;
  count = omega arith;
  stands = st;
}

-- All fragments were added, and what follows their events isn't reported.
pub cut_all : (l : Limits) (h : Received) (fs : List Fragment)
    (more es es' es'' : List Event) (k : Kept)
    → AreReceived l h fs es es' k → es'' ≡ es' →
    IsCut l h fs (events l h fs ++ more) es es'' k
cut_all l h fs more es es' es'' k was same = record {
  first = fs;
  behind = [];
  split = sym (append-nil fs);
  front = events l h fs;
  emitted = same ∙ was.events;
  kept = [];
  none_lost = append-nil (messages (events l h fs));
  not_emitted = more;
  in_order = ap (λ x. x ++ more) (append-nil (events l h fs));
  next = (after l h fs).next;
  count = omega arith;
  stands = was.stands;
}

-- Memory ran out within the fragments.
pub cut_stopped : (l : Limits) (h : Received) (fs : List Fragment)
    (more es es' : List Event) (k : Kept)
    → IsStopped l h fs es es' k →
    IsCut l h fs (events l h fs ++ more) es es' k
cut_stopped l h fs more es es' k was =
    let rest : List Event = events l (after l h was.first) was.behind in
    record {
      first = was.first;
      behind = was.behind;
      split = was.split;
      front = was.front;
      emitted = was.emitted;
      kept = was.kept;
      none_lost = ap (λ ms. messages was.front ++ ms) (sym (messages_emitted was.kept))
          ∙ sym (messages_append was.front (map Handshake was.kept)) ∙ ap messages was.all;
      not_emitted = rest ++ more;
      in_order = sym (append_assoc (was.front ++ map Handshake was.kept) rest more)
          ∙ ap (λ x. x ++ rest ++ more) was.all
          ∙ ap (λ x. x ++ more)
          (sym (ap (events l h) was.split ∙ events_append l h was.first was.behind));
      next = was.next;
      count = was.count;
      stands = was.stands;
    }

-- Memory ran out after fragments that were added.
pub cut_behind : (l : Limits) (h : Received) (first fs more : List Fragment)
    (so_far all rest total es es' es'' : List Event) (k : Kept) →
    es' ≡ es ++ so_far → messages so_far ≡ messages (events l h first)
    → so_far ++ (all ++ rest) ≡ total →
    IsCut l (after l h first) fs all es' es'' k → IsCut l h (first ++ (fs ++ more)) total es es'' k
cut_behind l h first fs more so_far all rest total es es' es'' k emitted none_lost in_order cut =
    let same : after l (after l h first) cut.first ≡ after l h (first ++ cut.first) =
    sym (after_append l h first cut.first) in
    let kept : List Event = map Handshake cut.kept in
    record {
      first = first ++ cut.first;
      behind = cut.behind ++ more;
      split = ap (λ x. first ++ (x ++ more)) cut.split
          ∙ ap (λ x. first ++ x) (append_assoc cut.first cut.behind more)
          ∙ sym (append_assoc first cut.first (cut.behind ++ more));
      front = so_far ++ cut.front;
      emitted = cut.emitted ∙ ap (λ x. x ++ cut.front) emitted ∙ append_assoc es so_far cut.front;
      kept = cut.kept;
      none_lost = ap (λ ms. ms ++ cut.kept) (messages_append so_far cut.front)
          ∙ append_assoc (messages so_far) (messages cut.front) cut.kept
          ∙ ap (λ ms. messages so_far ++ ms) cut.none_lost
          ∙ ap (λ ms. ms ++ messages (events l (after l h first) cut.first)) none_lost
          ∙ messages_joined l h first cut.first;
      not_emitted = cut.not_emitted ++ rest;
      in_order = ap (λ x. x ++ (cut.not_emitted ++ rest)) (append_assoc so_far cut.front kept)
          ∙ append_assoc so_far (cut.front ++ kept) (cut.not_emitted ++ rest)
          ∙ ap (λ x. so_far ++ x) (sym (append_assoc (cut.front ++ kept) cut.not_emitted rest)
          ∙ ap (λ x. x ++ rest) cut.in_order) ∙ in_order;
      next = cut.next;
      count = cut.count ∙ ap (λ g. g.next) same;
      stands = subst (λ g. Stands l (record { taken = g.taken; next = cut.next }) k) same
          cut.stands;
    }

-- A prefix of the events was appended.
pub part_not_emitted : (all es es' : List Event) → es' ≡ es → AreEmittedInPart all es es'
part_not_emitted all es es' same =
    record { front = []; not_emitted = all; split = refl; emitted = same ∙ sym (append-nil es) }

pub part_front : (front more es es' : List Event) → es' ≡ es ++ front
    → AreEmittedInPart (front ++ more) es es'
part_front front more es es' emitted =
    record { front = front; not_emitted = more; split = refl; emitted = emitted }

pub part_behind : (all more es es' : List Event) → AreEmittedInPart all es es'
    → AreEmittedInPart (all ++ more) es es'
part_behind all more es es' was = record {
  front = was.front;
  not_emitted = was.not_emitted ++ more;
  split = ap (λ x. x ++ more) was.split ∙ append_assoc was.front was.not_emitted more;
  emitted = was.emitted;
}

pub part_taken : {X : Type 0} (f : X → Event) (xs : List X) (i : ℕ) (es es' es'' : List Event)
    → es' ≡ es ++ map f (take i xs) → es'' ≡ es' → AreEmittedInPart (map f xs) es es''
part_taken f xs i es es' es'' emitted same = record {
  front = map f (take i xs);
  not_emitted = map f (drop i xs);
  split = ap (map f) (sym (take-append-drop i xs)) ∙ map-append f (take i xs) (drop i xs);
  emitted = same ∙ emitted;
}
