-- The events of records and datagrams.
use Rattle.std.proofs.Common.{
  ◌≡◌,
  ℕ,
  zero,
  suc,
  ◌+◌,
  ◌<◌,
  ◌≤◌,
  Bool,
  true,
  false,
  cond,
  Result,
  Ok,
  Err,
  List,
  [],
  ◌∷◌,
  ◌++◌,
  length,
  take,
  drop,
  map,
  refl,
  sym,
  ◌∙◌,
  ap,
  subst,
  arith,
  get_or,
  append_assoc,
  append-nil,
}
use Rattle.std.specs.Prelude.{OnOk, ◌==◌}
use Rattle.std.specs.Borrow.{Bor}
use Rattle.std.proofs.lemmas.Bool.{lt-ltb, le-ltb, eq-eqb, eqb-true}
use Rattle.std.proofs.lemmas.List.{map-append, drop_more}
use Rattle.std.proofs.Math.Seq.{take-suc}
use Rattle.layouts.specs.Bytes.{Bytes}
use Rattle.layouts.specs.Meaning.{Answer, Refusal}
use Rattle.layouts.specs.Reading.{reading}
use Rattle.raw_records.specs.RawDtlsRecord.{RawRecord}
use Rattle.dtls_records.specs.DtlsRecord.{Message, record_content, view_message}
use Rattle.dtls_records.specs.declared.message.DTLSMessage.{DTLSMessage}
use Rattle.dtls_stream.specs.Fragments.{Fragment}
use Rattle.dtls_stream.specs.Messages.{AreReceived, Encrypted, Event, Failed, Received, Kept, Limits, Stands, events}
use Rattle.dtls_stream.specs.Datagrams.{
  IsStep,
  content_bytes,
  content_step,
  datagram,
  datagrams,
  encrypted,
  event_of,
  fragment_record_step,
  fragments_step,
  kind_of,
  left_over,
  record_step,
  then_step,
  views,
}

pub map_next : {X Y : Type 0} (f : X → Y) (xs : List X) (i : ℕ) (d : X) → i < length xs
    → map f (take (i + 1) xs) ≡ map f (take i xs) ++ f (get_or xs i d) ∷ []
map_next f xs i d h =
    let one : i + 1 ≡ suc i = omega arith in
    ap (λ k. map f (take k xs)) one ∙ ap (map f) (take-suc xs i d h)
    ∙ map-append f (take i xs) (get_or xs i d ∷ [])

pub emitted_next : {X : Type 0} (f : X → Event) (xs : List X) (i : ℕ) (d : X)
    (es es' es'' : List Event) → i < length xs →
    es' ≡ es ++ map f (take i xs) → es'' ≡ es' ++ f (get_or xs i d) ∷ []
    → es'' ≡ es ++ map f (take (i + 1) xs)
emitted_next f xs i d es es' es'' h was pushed =
    pushed ∙ ap (λ e. e ++ f (get_or xs i d) ∷ []) was
    ∙ append_assoc es (map f (take i xs)) (f (get_or xs i d) ∷ [])
    ∙ ap (λ e. es ++ e) (sym (map_next f xs i d h))

pub map_twice : (ms : List DTLSMessage)
    → map event_of (map view_message ms) ≡ map (λ m. event_of (view_message m)) ms
map_twice [] = refl
map_twice (m ∷ ms) = ap (λ es. event_of (view_message m) ∷ es) (map_twice ms)

pub content_ok : (h : Received) (es es' es'' : List Event) (r : Answer (List Message))
    (ms : List DTLSMessage)
    (rest : Bytes) → r ≡ Ok (map view_message ms, rest) →
    es' ≡ es ++ map (λ m. event_of (view_message m)) ms → es'' ≡ es' ++ left_over rest
    → es'' ≡ es ++ (content_step r h).1
content_ok h es es' es'' r ms rest is emitted left =
    left ∙ ap (λ e. e ++ left_over rest) (emitted ∙ ap (λ m. es ++ m) (sym (map_twice ms)))
    ∙ append_assoc es (map event_of (map view_message ms)) (left_over rest)
    ∙ ap (λ a. es ++ (content_step a h).1) (sym is)

pub content_err : (h : Received) (es es' : List Event) (r : Answer (List Message)) (e : Refusal)
    → r ≡ Err e
    → es' ≡ es ++ Failed (kind_of e) ∷ [] → es' ≡ es ++ (content_step r h).1
content_err h es es' r e is emitted = emitted ∙ ap (λ a. es ++ (content_step a h).1) (sym is)

pub fragments_ok : (l : Limits) (h : Received) (es es' es'' : List Event) (k : Kept)
    (r : Answer (List Fragment))
    (fs : List Fragment) (rest : Bytes) → r ≡ Ok (fs, rest) →
    AreReceived l h fs es es' k → es'' ≡ es' ++ left_over rest
    → IsStep l (fragments_step r l h) es es'' k
fragments_ok l h es es' es'' k r fs rest is all left =
    subst (λ a. IsStep l (fragments_step a l h) es es'' k) (sym is) (record {
      events = left ∙ ap (λ e. e ++ left_over rest) all.events
          ∙ append_assoc es (events l h fs) (left_over rest);
      stands = all.stands;
    })

pub fragments_err : (l : Limits) (h : Received) (es es' : List Event) (k : Kept)
    (r : Answer (List Fragment)) (e : Refusal)
    → r ≡ Err e →
    es' ≡ es ++ Failed (kind_of e) ∷ [] → Stands l h k → IsStep l (fragments_step r l h) es es' k
fragments_err l h es es' k r e is emitted st =
    subst (λ a. IsStep l (fragments_step a l h) es es' k) (sym is)
    (record { events = emitted; stands = st })

-- A record.
pub sealed_step : (l : Limits) (h : Received) (r : RawRecord) (es es' : List Event) (k : Kept)
    → 0 < r.header.epoch
    → es' ≡ es ++ Encrypted (encrypted r) ∷ [] → Stands l h k →
    IsStep l (record_step l h r) es es' k
sealed_step l h r es es' k above emitted st =
    subst (λ b. IsStep l (cond b (h, Encrypted (encrypted r) ∷ [])
    (cond (r.header.content_type == 22) (fragment_record_step r.fragment l h)
    (content_step (reading (record_content r.header) (content_bytes r)) h))) es es' k)
    (sym (lt-ltb 0 r.header.epoch above)) (record { events = emitted; stands = st })

pub clear_step : (l : Limits) (h : Received) (r : RawRecord) (es es' : List Event) (k : Kept)
    → r.header.epoch ≤ 0 →
    IsStep l (cond (r.header.content_type == 22) (fragment_record_step r.fragment l h)
    (content_step (reading (record_content r.header) (content_bytes r)) h)) es es' k →
    IsStep l (record_step l h r) es es' k
clear_step l h r es es' k low is =
    subst (λ b. IsStep l (cond b (h, Encrypted (encrypted r) ∷ [])
    (cond (r.header.content_type == 22) (fragment_record_step r.fragment l h)
    (content_step (reading (record_content r.header) (content_bytes r)) h))) es es' k)
    (sym (le-ltb 0 r.header.epoch low)) is

pub handshake_step : (l : Limits) (h : Received) (r : RawRecord) (es es' : List Event) (k : Kept)
    → r.header.epoch ≤ 0
    → r.header.content_type ≡ 22 →
    IsStep l (fragment_record_step r.fragment l h) es es' k → IsStep l (record_step l h r) es es' k
handshake_step l h r es es' k low kind is =
    clear_step l h r es es' k low
    (subst (λ b. IsStep l (cond b (fragment_record_step r.fragment l h)
    (content_step (reading (record_content r.header) (content_bytes r)) h)) es es' k)
    (sym (eq-eqb r.header.content_type 22 kind)) is)

pub eqb-ne : (a b : ℕ) → (a ≡ b → ⊥) → (a == b) ≡ false
eqb-ne a b not = go (a == b) refl
  where
    go : (t : Bool) → (a == b) ≡ t → t ≡ false
    go true e = absurd (not (eqb-true a b e))
    go false e = refl

pub content_same : (h : Received) (r : Answer (List Message)) → (content_step r h).0 ≡ h
content_same h (Ok x) = refl
content_same h (Err e) = refl

pub other_step : (l : Limits) (h : Received) (r : RawRecord) (es es' : List Event) (k : Kept)
    → r.header.epoch ≤ 0
    → (r.header.content_type ≡ 22 → ⊥) →
    es' ≡ es ++ (content_step (reading (record_content r.header) (content_bytes r)) h).1
    → Stands l h k
    → IsStep l (record_step l h r) es es' k
other_step l h r es es' k low kind emitted st =
    clear_step l h r es es' k low
    (subst (λ b. IsStep l (cond b (fragment_record_step r.fragment l h)
    (content_step (reading (record_content r.header) (content_bytes r)) h)) es es' k)
    (sym (eqb-ne r.header.content_type 22 kind))
    (record {
      events = emitted;
      stands =
          subst (λ g. Stands l g k)
          (sym (content_same h (reading (record_content r.header) (content_bytes r)))) st;
    }))

pub on_ok : {P Q E : Type 0} (r : Result Unit E) → OnOk r P → (P → Q) → OnOk r Q
on_ok (Ok t) p f = f p
on_ok (Err e) p f = tt

-- Datagrams.
pub record AreReading (l : Limits) (all ds : List Bytes) (es : List Event) (k : Kept) : Type 0 where
  pub received : Received
  pub stands : Stands l received k
  pub emitted : es ++ (datagrams l received ds).1 ≡ (datagrams l (record { taken = []; next = 0 }) all).1

pub datagrams_begin : (l : Limits) (ds : List Bytes) (k : Kept)
    → Stands l (record { taken = []; next = 0 }) k
    → AreReading l ds ds [] k
datagrams_begin l ds k st =
    record { received = record { taken = []; next = 0 }; stands = st; emitted = refl }

more_datagrams : (l : Limits) (h : Received) (d : Bytes) (ds : List Bytes)
    → datagrams l h (d ∷ ds) ≡ then_step (datagram l h d) (λ h. datagrams l h ds)
unfolding datagrams
more_datagrams l h d ds = refl

no_datagrams : (l : Limits) (h : Received) → datagrams l h [] ≡ (h, [])
unfolding datagrams
no_datagrams l h = refl

pub datagrams_next : (l : Limits) (all : List Bytes) (ds : List (Bor (List ℕ))) (i : ℕ)
    (d : Bor (List ℕ))
    (es es' : List Event) (k k' : Kept) → i < length ds →
    AreReading l all (views (drop i ds)) es k
    → ((l : Limits) (h : Received) → Stands l h k
    → IsStep l (datagram l h (get_or ds i d).now) es es' k') →
    AreReading l all (views (drop (i + 1) ds)) es' k'
datagrams_next l all ds i d es es' k k' low was receives =
    let one = receives l was.received was.stands in
    let b : Bytes = (get_or ds i d).now in
    let rest : List Bytes = views (drop (i + 1) ds) in
    let steps : datagrams l was.received (views (drop i ds))
    ≡ then_step (datagram l was.received b) (λ h. datagrams l h rest) =
    ap (λ x. datagrams l was.received (views x)) (drop_more ds i d low)
    ∙ more_datagrams l was.received b rest in
    record {
      received = (datagram l was.received b).0;
      stands = one.stands;
      emitted = ap (λ e. e ++ (datagrams l (datagram l was.received b).0 rest).1) one.events
          ∙ append_assoc es (datagram l was.received b).1
          (datagrams l (datagram l was.received b).0 rest).1
          ∙ ap (λ s. es ++ s.1) (sym steps) ∙ was.emitted;
    }

pub datagrams_end : (l : Limits) (all ds : List Bytes) (es : List Event) (k : Kept) → ds ≡ []
    → AreReading l all ds es k
    → es ≡ (datagrams l (record { taken = []; next = 0 }) all).1
datagrams_end l all ds es k none was =
    sym (append-nil es)
    ∙ ap (λ s. es ++ s.1) (sym (ap (datagrams l was.received) none ∙ no_datagrams l was.received))
    ∙ was.emitted

pub drop_past : (ds : List (Bor (List ℕ))) (i : ℕ) → length ds ≤ i → views (drop i ds) ≡ []
drop_past [] zero h = refl
drop_past [] (suc i) h = refl
drop_past (d ∷ ds) zero h = absurd (omega (arith, h))
drop_past (d ∷ ds) (suc i) h = drop_past ds i (omega (arith, h))
