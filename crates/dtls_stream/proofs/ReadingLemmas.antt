-- The events of a datagram, record by record.
use Rattle.std.proofs.Common.{
  ◌≡◌,
  ℕ,
  suc,
  ◌≤◌,
  Bool,
  true,
  false,
  cond,
  nat_lt,
  Ok,
  Err,
  List,
  [],
  ◌∷◌,
  ◌++◌,
  length,
  map,
  refl,
  sym,
  ◌∙◌,
  ap,
  subst,
  append_assoc,
  append-nil,
}
use Rattle.std.specs.Prelude.{◌==◌}
use Rattle.std.proofs.lemmas.Bool.{le-ltb, eq-eqb}
use Rattle.layouts.specs.Bytes.{Bytes}
use Rattle.layouts.specs.Layout.{list1}
use Rattle.layouts.specs.Meaning.{Answer, Refusal}
use Rattle.layouts.specs.Reading.{reading}
use Rattle.raw_records.specs.RawDtlsRecord.{RawRecord}
use Rattle.dtls_records.specs.DtlsRecord.{Message, record_content, view_message}
use Rattle.dtls_records.specs.declared.message.DTLSMessage.{DTLSMessage}
use Rattle.dtls_records.specs.DtlsRecord as dtls_record
use Rattle.dtls_stream.specs.Fragments.{Fragment, fragment}
use Rattle.dtls_stream.specs.Messages.{
  AreReceived,
  Encrypted,
  Event,
  Received,
  IsStopped,
  Kept,
  Limits,
  Stands,
  after,
  events,
  messages,
}
use Rattle.dtls_stream.proofs.StoppedLemmas.{after_append}
use Rattle.dtls_stream.specs.Datagrams.{
  AreEmittedInPart,
  IsCut,
  IsStep,
  Step,
  content_bytes,
  content_step,
  datagram,
  datagram_record,
  encrypted,
  event_of,
  fragment_record_step,
  fragments_from,
  fragments_in_record,
  fragments_of,
  fragments_step,
  fragments_within,
  left_over,
  next_record,
  record_step,
  records_step,
  then_step,
  those_read,
  unread,
}
use Rattle.dtls_stream.proofs.CutLemmas.{
  cut_all,
  cut_behind,
  cut_part,
  cut_same,
  cut_stopped,
  messages_append,
  messages_joined,
  part_behind,
  part_front,
}
use Rattle.dtls_stream.proofs.DatagramLemmas.{content_same, eqb-ne, map_twice}

-- A record of another type has no message.
left_none : (b : Bytes) → messages (left_over b) ≡ []
left_none [] = refl
left_none (b ∷ bs) = refl

event_none : (m : Message) (es : List Event) → messages (event_of m ∷ es) ≡ messages es
event_none dtls_record.ChangeCipherSpec es = refl
event_none (dtls_record.Alert a) es = refl
event_none m es = refl

emitted_none : (ms : List Message) → messages (map event_of ms) ≡ []
emitted_none [] = refl
emitted_none (m ∷ ms) = event_none m (map event_of ms) ∙ emitted_none ms

content_none : (h : Received) (r : Answer (List Message)) → messages (content_step r h).1 ≡ []
content_none h (Ok x) = messages_append (map event_of x.0) (left_over x.1)
    ∙ ap (λ ms. ms ++ messages (left_over x.1)) (emitted_none x.0) ∙ left_none x.1
content_none h (Err e) = refl

fragments_after : (l : Limits) (h : Received) (r : Answer (List Fragment))
    → (fragments_step r l h).0 ≡ after l h (those_read r)
unfolding after
fragments_after l h (Ok x) = refl
fragments_after l h (Err e) = refl

fragments_messages : (l : Limits) (h : Received) (r : Answer (List Fragment))
    → messages (fragments_step r l h).1 ≡ messages (events l h (those_read r))
unfolding events
fragments_messages l h (Ok x) = messages_append (events l h x.0) (left_over x.1)
    ∙ ap (λ ms. messages (events l h x.0) ++ ms) (left_none x.1)
    ∙ append-nil (messages (events l h x.0))
fragments_messages l h (Err e) = refl

-- A record, by whether it is encrypted and has fragments.
abbrev step_by : Bool → Bool → Limits → Received → RawRecord → Step
step_by a b l h r =
    cond a (h, Encrypted (encrypted r) ∷ []) (
    cond b (fragment_record_step r.fragment l h)
    (content_step (reading (record_content r.header) (content_bytes r)) h))

abbrev fragments_by : Bool → Bool → RawRecord → List Fragment
fragments_by a b r = cond a [] (cond b (those_read (reading (list1 fragment) r.fragment)) [])

after_by : (a b : Bool) (l : Limits) (h : Received) (r : RawRecord)
    → (step_by a b l h r).0 ≡ after l h (fragments_by a b r)
unfolding after
after_by true b l h r = refl
after_by false true l h r = fragments_after l h (reading (list1 fragment) r.fragment)
after_by false false l h r = content_same h (reading (record_content r.header) (content_bytes r))

messages_by : (a b : Bool) (l : Limits) (h : Received) (r : RawRecord)
    → messages (step_by a b l h r).1 ≡ messages (events l h (fragments_by a b r))
unfolding events
messages_by true b l h r = refl
messages_by false true l h r = fragments_messages l h (reading (list1 fragment) r.fragment)
messages_by false false l h r = content_none h (reading (record_content r.header) (content_bytes r))

record_after : (l : Limits) (h : Received) (r : RawRecord)
    → (record_step l h r).0 ≡ after l h (fragments_in_record r)
record_after l h r = after_by (nat_lt 0 r.header.epoch) (r.header.content_type == 22) l h r

record_messages : (l : Limits) (h : Received) (r : RawRecord)
    → messages (record_step l h r).1 ≡ messages (events l h (fragments_in_record r))
record_messages l h r = messages_by (nat_lt 0 r.header.epoch) (r.header.content_type == 22) l h r

-- Memory ran out in a record.
pub fragments_stopped : (l : Limits) (h : Received) (es es' : List Event) (k : Kept)
    (r : Answer (List Fragment))
    (fs : List Fragment) (rest : Bytes) → r ≡ Ok (fs, rest) →
    IsStopped l h fs es es' k → IsCut l h (those_read r) (fragments_step r l h).1 es es' k
fragments_stopped l h es es' k r fs rest is was =
    subst (λ a. IsCut l h (those_read a) (fragments_step a l h).1 es es' k) (sym is)
    (cut_stopped l h fs (left_over rest) es es' k was)

pub fragments_not_emitted : (l : Limits) (h : Received) (es es' es'' : List Event) (k : Kept)
    (r : Answer (List Fragment))
    (fs : List Fragment) (rest : Bytes) → r ≡ Ok (fs, rest) →
    AreReceived l h fs es es' k → es'' ≡ es'
    → IsCut l h (those_read r) (fragments_step r l h).1 es es'' k
fragments_not_emitted l h es es' es'' k r fs rest is was same =
    subst (λ a. IsCut l h (those_read a) (fragments_step a l h).1 es es'' k) (sym is)
    (cut_all l h fs (left_over rest) es es' es'' k was same)

-- A prefix of a record's messages was reported, in a record of another type.
pub content_stopped : (h : Received) (es es' : List Event) (r : Answer (List Message))
    (ms : List DTLSMessage)
    (rest : Bytes) → r ≡ Ok (map view_message ms, rest) →
    AreEmittedInPart (map (λ m. event_of (view_message m)) ms) es es'
    → AreEmittedInPart (content_step r h).1 es es'
content_stopped h es es' r ms rest is was =
    subst (λ a. AreEmittedInPart (content_step a h).1 es es') (sym is)
    (subst (λ all. AreEmittedInPart (all ++ left_over rest) es es') (sym (map_twice ms))
    (part_behind (map (λ m. event_of (view_message m)) ms) (left_over rest) es es' was))

pub content_not_emitted : (h : Received) (es es' es'' : List Event) (r : Answer (List Message))
    (ms : List DTLSMessage)
    (rest : Bytes) → r ≡ Ok (map view_message ms, rest) →
    es' ≡ es ++ map (λ m. event_of (view_message m)) ms → es'' ≡ es'
    → AreEmittedInPart (content_step r h).1 es es''
content_not_emitted h es es' es'' r ms rest is emitted same =
    subst (λ a. AreEmittedInPart (content_step a h).1 es es'') (sym is)
    (part_front (map event_of (map view_message ms)) (left_over rest) es es''
    (same ∙ emitted ∙ ap (λ m. es ++ m) (sym (map_twice ms))))

cut_by : (a b c d : Bool) (l : Limits) (h : Received) (r : RawRecord) (es es' : List Event) (k : Kept)
    → a ≡ c → b ≡ d →
    IsCut l h (fragments_by c d r) (step_by c d l h r).1 es es' k
    → IsCut l h (fragments_by a b r) (step_by a b l h r).1 es es' k
cut_by a b c d l h r es es' k first second is =
    subst (λ b. IsCut l h (fragments_by a b r) (step_by a b l h r).1 es es' k) (sym second)
    (subst (λ a. IsCut l h (fragments_by a d r) (step_by a d l h r).1 es es' k) (sym first) is)

pub handshake_cut : (l : Limits) (h : Received) (r : RawRecord) (es es' : List Event) (k : Kept)
    → r.header.epoch ≤ 0
    → r.header.content_type ≡ 22 →
    IsCut l h (those_read (reading (list1 fragment) r.fragment))
    (fragment_record_step r.fragment l h).1 es es' k →
    IsCut l h (fragments_in_record r) (record_step l h r).1 es es' k
handshake_cut l h r es es' k low kind is =
    cut_by (nat_lt 0 r.header.epoch) (r.header.content_type == 22) false true l h r es es' k
    (le-ltb 0 r.header.epoch low) (eq-eqb r.header.content_type 22 kind) is

pub other_cut : (l : Limits) (h : Received) (r : RawRecord) (es es' : List Event) (k : Kept)
    → r.header.epoch ≤ 0
    → (r.header.content_type ≡ 22 → ⊥) →
    AreEmittedInPart (content_step (reading (record_content r.header) (content_bytes r)) h).1 es es'
    → Stands l h k →
    IsCut l h (fragments_in_record r) (record_step l h r).1 es es' k
other_cut l h r es es' k low kind was st =
    cut_by (nat_lt 0 r.header.epoch) (r.header.content_type == 22) false false l h r es es' k
    (le-ltb 0 r.header.epoch low) (eqb-ne r.header.content_type 22 kind)
    (cut_part l h (content_step (reading (record_content r.header) (content_bytes r)) h).1 es es' k
    (content_none h (reading (record_content r.header) (content_bytes r))) was st)

-- A datagram with at most n records to come: a prefix of its fragments was added.
pub record IsReading (l : Limits) (h : Received) (fs : List Fragment) (s : Step) (n : ℕ) (left : Bytes)
    (es es' : List Event) (k : Kept) : Type 0 where
  pub received : Received
  pub stands : Stands l received k
  pub front : List Event
  pub emitted : es' ≡ es ++ front
  pub in_order : front ++ (records_step n l received left).1 ≡ s.1
  pub end : (records_step n l received left).0 ≡ s.0
  pub first : List Fragment
  pub split : fs ≡ first ++ fragments_within n left
  pub receives : received ≡ after l h first
  pub none_lost : messages front ≡ messages (events l h first)

pub reading_begins : (l : Limits) (h : Received) (b : Bytes) (n : ℕ) (es : List Event) (k : Kept)
    → n ≡ length b
    → Stands l h k →
    IsReading l h (fragments_of b) (datagram l h b) n b es es k
unfolding after events
reading_begins l h b n es k is st = record {
  received = h;
  stands = st;
  front = [];
  emitted = sym (append-nil es);
  in_order = ap (λ n. (records_step n l h b).1) is;
  end = ap (λ n. (records_step n l h b).0) is;
  first = [];
  split = ap (λ n. fragments_within n b) (sym is);
  receives = refl;
  none_lost = refl;
}

step_ok : (n : ℕ) (l : Limits) (h : Received) (b rest : Bytes) (r : RawRecord)
    → reading datagram_record b ≡ Ok (r, rest) →
    records_step (suc n) l h b ≡ then_step (record_step l h r) (λ h. records_step n l h rest)
unfolding records_step
step_ok n l h b rest r is = ap (λ a. next_record a l h b (records_step n l)) is

within_ok : (n : ℕ) (b rest : Bytes) (r : RawRecord) → reading datagram_record b ≡ Ok (r, rest) →
    fragments_within (suc n) b ≡ fragments_in_record r ++ fragments_within n rest
unfolding fragments_within
within_ok n b rest r is = ap (λ a. fragments_from a (fragments_within n)) is

step_err : (n : ℕ) (l : Limits) (h : Received) (b : Bytes) (e : Refusal)
    → reading datagram_record b ≡ Err e
    → records_step (suc n) l h b ≡ (h, unread b e)
unfolding records_step
step_err n l h b e is = ap (λ a. next_record a l h b (records_step n l)) is

step_none : (l : Limits) (h : Received) (b : Bytes) → records_step 0 l h b ≡ (h, [])
unfolding records_step
step_none l h b = refl

pub reading_next : (l : Limits) (h : Received) (fs : List Fragment) (s : Step) (n m : ℕ)
    (left rest : Bytes)
    (r : RawRecord) (es es' es'' : List Event) (k k' : Kept) →
    n ≡ suc m → reading datagram_record left ≡ Ok (r, rest) → IsReading l h fs s n left es es' k →
    ((l : Limits) (h : Received) → Stands l h k → IsStep l (record_step l h r) es' es'' k')
    → IsReading l h fs s m rest es es'' k'
reading_next l h fs s n m left rest r es es' es'' k k' is ok was receives =
    let one = receives l was.received was.stands in
    let step : Step = record_step l was.received r in
    let steps : records_step n l was.received left ≡ then_step step (λ h. records_step m l h rest) =
    ap (λ n. records_step n l was.received left) is ∙ step_ok m l was.received left rest r ok in
    let more : List Fragment = fragments_in_record r in
    record {
      received = step.0;
      stands = one.stands;
      front = was.front ++ step.1;
      emitted = one.events ∙ ap (λ e. e ++ step.1) was.emitted ∙ append_assoc es was.front step.1;
      in_order = append_assoc was.front step.1 (records_step m l step.0 rest).1
          ∙ ap (λ s. was.front ++ s.1) (sym steps)
          ∙ was.in_order;
      end = ap (λ s. s.0) (sym steps) ∙ was.end;
      first = was.first ++ more;
      split = was.split ∙ ap (λ x. was.first ++ x)
          (ap (λ n. fragments_within n left) is ∙ within_ok m left rest r ok)
          ∙ sym (append_assoc was.first more (fragments_within m rest));
      receives = record_after l was.received r ∙ ap (λ g. after l g more) was.receives
          ∙ sym (after_append l h was.first more);
      none_lost = messages_append was.front step.1 ∙ ap (λ ms. ms ++ messages step.1) was.none_lost
          ∙ ap (λ ms. messages (events l h was.first) ++ ms)
          (record_messages l was.received r ∙ ap (λ g. messages (events l g more)) was.receives)
          ∙ messages_joined l h was.first more;
    }

pub reading_fails : (l : Limits) (h : Received) (fs : List Fragment) (s : Step) (n m : ℕ)
    (left : Bytes) (e : Refusal)
    (es es' es'' : List Event) (k : Kept) →
    n ≡ suc m → reading datagram_record left ≡ Err e → IsReading l h fs s n left es es' k
    → es'' ≡ es' ++ unread left e
    → IsStep l s es es'' k
reading_fails l h fs s n m left e es es' es'' k is err was emitted =
    let steps : records_step n l was.received left ≡ (was.received, unread left e) =
    ap (λ n. records_step n l was.received left) is ∙ step_err m l was.received left e err in
    record {
      events = emitted ∙ ap (λ x. x ++ unread left e) was.emitted
          ∙ append_assoc es was.front (unread left e)
          ∙ ap (λ x. es ++ x) (ap (λ s. was.front ++ s.1) (sym steps) ∙ was.in_order);
      stands = subst (λ h. Stands l h k) (ap (λ s. s.0) (sym steps) ∙ was.end) was.stands;
    }

pub reading_ends : (l : Limits) (h : Received) (fs : List Fragment) (s : Step) (n : ℕ) (left : Bytes)
    (es es' : List Event)
    (k : Kept) → n ≡ 0 →
    IsReading l h fs s n left es es' k → IsStep l s es es' k
reading_ends l h fs s n left es es' k is was =
    let steps : records_step n l was.received left ≡ (was.received, []) =
    ap (λ n. records_step n l was.received left) is
    ∙ step_none l was.received left in
    record {
      events = was.emitted ∙ ap (λ x. es ++ x)
          (sym (append-nil was.front) ∙ ap (λ s. was.front ++ s.1) (sym steps) ∙ was.in_order);
      stands = subst (λ h. Stands l h k) (ap (λ s. s.0) (sym steps) ∙ was.end) was.stands;
    }

-- Memory ran out in the next record, or when the rest was reported.
pub reading_cut : (l : Limits) (h : Received) (fs : List Fragment) (s : Step) (n m : ℕ)
    (left rest : Bytes) (r : RawRecord)
    (es es' es'' : List Event) (k k' : Kept) →
    n ≡ suc m → reading datagram_record left ≡ Ok (r, rest) → IsReading l h fs s n left es es' k →
    ((l : Limits) (h : Received) → Stands l h k
    → IsCut l h (fragments_in_record r) (record_step l h r).1 es' es'' k')
    → IsCut l h fs s.1 es es'' k'
reading_cut l h fs s n m left rest r es es' es'' k k' is ok was receives =
    let step : Step = record_step l was.received r in
    let more : List Fragment = fragments_in_record r in
    let behind : List Event = (records_step m l step.0 rest).1 in
    let steps : records_step n l was.received left ≡ then_step step (λ h. records_step m l h rest) =
    ap (λ n. records_step n l was.received left) is ∙ step_ok m l was.received left rest r ok in
    let cut : IsCut l (after l h was.first) more step.1 es' es'' k' =
    subst (λ g. IsCut l g more step.1 es' es'' k') was.receives (receives l was.received was.stands) in
    let split : fs ≡ was.first ++ (more ++ fragments_within m rest) =
    was.split ∙ ap (λ x. was.first ++ x)
    (ap (λ n. fragments_within n left) is ∙ within_ok m left rest r ok) in
    subst (λ fs. IsCut l h fs s.1 es es'' k') (sym split)
    (cut_behind l h was.first more (fragments_within m rest) was.front step.1 behind s.1 es es' es''
    k' was.emitted
    was.none_lost
    (ap (λ s. was.front ++ s.1) (sym steps) ∙ was.in_order) cut)

pub reading_not_emitted : (l : Limits) (h : Received) (fs : List Fragment) (s : Step) (n : ℕ) (left : Bytes)
    (es es' es'' : List Event) (k : Kept) →
    IsReading l h fs s n left es es' k → es'' ≡ es' → IsCut l h fs s.1 es es'' k
reading_not_emitted l h fs s n left es es' es'' k was same =
    let stands : Stands l (after l h was.first) k =
    subst (λ g. Stands l g k) was.receives was.stands in
    subst (λ fs. IsCut l h fs s.1 es es'' k) (sym was.split)
    (cut_behind l h was.first [] (fragments_within n left) was.front []
    (records_step n l was.received left).1 s.1 es es'
    es'' k was.emitted was.none_lost was.in_order
    (cut_same l (after l h was.first) [] [] es' es'' k same stands))
