-- The handshake messages of directions.
use Rattle.std.proofs.Common.{
  ◌≡◌,
  ℕ,
  ◌+◌,
  ◌<◌,
  ◌≤◌,
  List,
  [],
  ◌∷◌,
  ◌++◌,
  length,
  take,
  drop,
  get_or,
  map,
  Bool,
  true,
  false,
  Option,
  Some,
  None,
  refl,
  sym,
  ◌∙◌,
  ap,
  subst,
  arith,
  append_assoc,
  append-nil,
  lit<,
}
use Rattle.std.specs.Prelude.{IsSome, option_map}
use Rattle.std.specs.Borrow.{Bor}
use Rattle.std.specs.Global.{Vec}
use Rattle.std.proofs.lemmas.List.{map-append, take-append-drop, take_all}
use Rattle.std.proofs.lemmas.Grind.{flat_map-append}
use Rattle.layouts.specs.Bytes.{Bytes}
use Rattle.tls_stream.specs.Frames.{Shape, body_length, elements, front, joined}
use Rattle.tls_stream.proofs.FrontLemmas.{none_part}
use Rattle.tls_stream.proofs.PieceLemmas.{joined_next}
use Rattle.tls_stream.specs.Item.{
  Event,
  Standing,
  wide_record,
  Handshake,
  ChangeCipherSpec,
  Alert,
  Heartbeat,
  ApplicationData,
  Encrypted,
  Failed,
}
use Rattle.tls_stream.specs.Stream.{FirstTaken}
use Rattle.tls_stream.specs.Events.{ReadsOnly, ReadsTheSame, events, fed, first, silent}
use Rattle.tls_stream.specs.Taken.{AreTaken, IsOver, TakesSame, handshake_in, handshakes, message_in, with_those_of}
use Rattle.tls_stream.specs.declared.event_reader.EventReader.{EventReader}
use Rattle.tls_stream.specs.declared.fault.Fault.{Fault}
use Rattle.tls_stream.specs.Messages.{messages_of}
use Rattle.tls_stream.proofs.EventLemmas.{takes}
use Rattle.tls_stream.proofs.ItemLemmas.{none_short}
use Rattle.tls_stream.proofs.StreamLemmas.{nothing}
use Rattle.tls_stream.proofs.DirectionLemmas.{fed_nothing, fed_twice, first_event}

-- What the next event is.
pub record IsTakenOff (d : EventReader) (e : Event) (new : EventReader) : Type 0 where
  pub further_events : (s : Bytes) → events (fed d s) ≡ e ∷ events (fed new s)

pub taken_off : (d new : EventReader) (t : Bool) → IsSome (first d) → FirstTaken (first d) d t new
    → (e : Event) × (option_map (λ x. x.0) (first d) ≡ Some e) × IsTakenOff d e new
taken_off d new t some off = go (first d) refl some off
  where
    go : (a : Option (Event × EventReader)) → first d ≡ a → IsSome a → FirstTaken a d t new
        → (e : Event) × (option_map (λ x. x.0) a ≡ Some e) × IsTakenOff d e new
    go None is some off = absurd cc
    go (Some x) is some off = (
      x.0,
      refl,
      record {
        further_events = λ s. first_event d x.1 x.0 s is
            ∙ ap (λ n. x.0 ∷ events (fed n s)) (sym off.1);
      },
    )

-- One more event was taken.
one_off : (taken taken' : List Bytes) (d new : EventReader) (e : Event) → IsTakenOff d e new
    → taken' ≡ taken ++ message_in e → TakesSame taken d taken' new
one_off taken taken' d new e off more s =
    ap (λ es. taken ++ handshakes es) (off.further_events s)
    ∙ sym (append_assoc taken (message_in e) (handshakes (events (fed new s))))
    ∙ ap (λ t. t ++ handshakes (events (fed new s))) (sym more)

message_is : (e : Event) (m : Bytes) → Some m ≡ handshake_in (Some e) → e ≡ Handshake m
message_is (Handshake n) m h = let is : m ≡ n = cc in ap Handshake (sym is)
message_is ChangeCipherSpec m h = absurd cc
message_is (Alert a) m h = absurd cc
message_is (Heartbeat b) m h = absurd cc
message_is (ApplicationData b) m h = absurd cc
message_is (Encrypted b) m h = absurd cc
message_is (Failed f) m h = absurd cc

none_is : (e : Event) → None ≡ handshake_in (Some e) → message_in e ≡ []
none_is (Handshake n) h = absurd cc
none_is ChangeCipherSpec h = refl
none_is (Alert a) h = refl
none_is (Heartbeat b) h = refl
none_is (ApplicationData b) h = refl
none_is (Encrypted b) h = refl
none_is (Failed f) h = refl

pub message_off : (taken : List (Vec ℕ)) (now : List (Vec ℕ)) (v : Vec ℕ) (m : Bytes)
    (d new : EventReader) (t : Bool)
    → IsSome (first d) → FirstTaken (first d) d t new
    → Some m ≡ handshake_in (option_map (λ x. x.0) (first d))
    → now ≡ taken ++ v ∷ [] → v.items ≡ m
    → TakesSame (elements taken) d (elements now) new
message_off taken now v m d new t some off front pushed same =
    let x = taken_off d new t some off in
    let is : x.0 ≡ Handshake m = message_is x.0 m (front ∙ ap handshake_in x.1) in
    one_off (elements taken) (elements now) d new x.0 x.2
    (ap elements pushed ∙ map-append (λ v. v.items) taken (v ∷ [])
    ∙ ap (λ b. elements taken ++ b ∷ []) same
    ∙ ap (λ e. elements taken ++ message_in e) (sym is))

pub other_off : (taken : List Bytes) (d new : EventReader) (t : Bool) → IsSome (first d)
    → FirstTaken (first d) d t new
    → None ≡ handshake_in (option_map (λ x. x.0) (first d)) → TakesSame taken d taken new
other_off taken d new t some off front =
    let x = taken_off d new t some off in
    one_off taken taken d new x.0 x.2 (sym (append-nil taken)
    ∙ ap (λ m. taken ++ m) (sym (none_is x.0 (front ∙ ap handshake_in x.1))))

pub fewer_off : (d new : EventReader) (t : Bool) → IsSome (first d) → FirstTaken (first d) d t new
    → length (events (fed new [])) < length (events (fed d []))
fewer_off d new t some off =
    let x = taken_off d new t some off in
    let is = ap length (x.2.further_events []) in
    omega (arith, is)

-- All events were taken.
pub same_ready : (taken : List Bytes) (d new : EventReader) → ReadsTheSame new d
    → TakesSame taken d taken new
same_ready taken d new same s = ap (λ es. taken ++ handshakes es) (sym (same s))

pub ended : (taken all : List Bytes) (first_one d new : EventReader) (f : Fault)
    → TakesSame all first_one taken d
    → ReadsTheSame new d → ReadsOnly new (Failed f ∷ []) → AreTaken all first_one taken new true
ended taken all first_one d new f was same only =
    record { same = λ s. was s ∙ same_ready taken d new same s; over = (f, only) }

pub waits : (taken all : List Bytes) (first_one d new : EventReader)
    → TakesSame all first_one taken d
    → ReadsTheSame new d → events new ≡ [] → AreTaken all first_one taken new false
waits taken all first_one d new was same none =
    record { same = λ s. was s ∙ same_ready taken d new same s; over = none }

pub none_over : (d : EventReader) (t : Bool) → IsOver d t → handshakes (events d) ≡ []
none_over d true over = ap (λ k. handshakes (events k)) (sym (fed_nothing d))
    ∙ ap handshakes (over.1 [])
none_over d false over = ap handshakes over

-- The messages of x were taken from a new direction, and none of those still to come are lost.
abbrev pub IsSent : List Bytes → EventReader → ℕ → Bytes → Type 0
IsSent taken d limit x = (s : Bytes)
    → handshakes (events (fed (silent limit) (x ++ s))) ≡ with_those_of taken d s

pub sent_more : (x y : Bytes) (taken taken' : List Bytes) (d fed_d new : EventReader) (limit : ℕ)
    → IsSent taken d limit x
    → fed_d ≡ fed d y → TakesSame taken fed_d taken' new → IsSent taken' new limit (x ++ y)
sent_more x y taken taken' d fed_d new limit was feeds takes s =
    ap (λ x. handshakes (events (fed (silent limit) x))) (append_assoc x y s)
    ∙ was (y ++ s)
    ∙ ap (λ k. taken ++ handshakes (events k)) (sym (fed_twice d y s))
    ∙ ap (λ k. taken ++ handshakes (events (fed k s))) (sym feeds)
    ∙ takes s

pub sent_all : (x : Bytes) (taken : List Bytes) (d : EventReader) (limit : ℕ)
    → IsSent taken d limit x
    → handshakes (events d) ≡ []
    → taken ≡ handshakes (events (fed (silent limit) x))
sent_all x taken d limit was none =
    sym (append-nil taken)
    ∙ ap (λ m. taken ++ m) (sym none)
    ∙ ap (λ k. taken ++ handshakes (events k)) (sym (fed_nothing d))
    ∙ sym (was [])
    ∙ ap (λ x. handshakes (events (fed (silent limit) x))) (append-nil x)

-- One more piece of a list.
pub one_piece : (pieces : List (Bor (List ℕ))) (i : ℕ) (p : Bor (List ℕ))
    (taken taken' : List Bytes)
    (d fed_d new : EventReader)
    (limit : ℕ) → i < length pieces → IsSent taken d limit (joined (take i pieces))
    → fed_d ≡ fed d (get_or pieces i p).now
    → TakesSame taken fed_d taken' new → IsSent taken' new limit (joined (take (i + 1) pieces))
one_piece pieces i p taken taken' d fed_d new limit h was feeds takes =
    subst (λ x. IsSent taken' new limit x) (sym (joined_next pieces i p h))
    (sent_more (joined (take i pieces)) (get_or pieces i p).now taken taken' d fed_d new limit was
    feeds takes)

-- The direction is at fault: no message follows, whatever is fed.
pub at_fault : (pieces : List (Bor (List ℕ))) (i : ℕ) (p : Bor (List ℕ)) (taken taken' : List Bytes)
    (d fed_d new : EventReader)
    (limit : ℕ) → i < length pieces → IsSent taken d limit (joined (take i pieces))
    → fed_d ≡ fed d (get_or pieces i p).now
    → AreTaken taken fed_d taken' new true
    → taken' ≡ handshakes (events (fed (silent limit) (joined pieces)))
at_fault pieces i p taken taken' d fed_d new limit h was feeds ends =
    let others = joined (drop (i + 1) pieces) in
    let all : joined pieces ≡ joined (take (i + 1) pieces) ++ others
    = ap joined (sym (take-append-drop (i + 1) pieces))
    ∙ flat_map-append (λ p. p.now) (take (i + 1) pieces) (drop (i + 1) pieces) in
    sym (append-nil taken')
    ∙ ap (λ es. taken' ++ handshakes es) (sym (ends.over.1 others))
    ∙ sym (one_piece pieces i p taken taken' d fed_d new limit h was feeds ends.same others)
    ∙ ap (λ x. handshakes (events (fed (silent limit) x))) (sym all)

-- No bytes have no frames.
none_of_none : (f : Shape) → 0 < f.header → front f [] ≡ None
none_of_none f takes =
    none_part f [] (λ w. let h : f.header + body_length f [] ≤ 0 = w in omega (arith, h, takes))

abbrev fresh : Standing
fresh = record { is_tls13 = false; has_changed = false }

pub silence : (limit : ℕ) → events (silent limit) ≡ []
silence limit =
    nothing limit 22 fresh [] [] (none_of_none (messages_of limit 22) (takes limit 22))
    (none_short fresh [] (none_of_none wide_record (lit< tt)) (lit< tt))
    (λ l. let h : (messages_of limit 22).header ≤ 0 = l.has_header in
    omega (arith, h, takes limit 22))

pub begun : (taken : List (Vec ℕ)) (d : EventReader) (limit : ℕ) → taken ≡ [] → d ≡ silent limit
    → IsSent (elements taken) d limit [] × (events d ≡ [])
begun taken d limit none is = (
  λ s. sym (ap (λ t. elements t ++ handshakes (events (fed d s))) none
      ∙ ap (λ d. handshakes (events (fed d s))) is),
  ap events is ∙ silence limit,
)

pub at_end_all : (pieces : List (Bor (List ℕ))) (i : ℕ) (taken : List Bytes) (d : EventReader)
    (limit : ℕ)
    → length pieces ≤ i
    → IsSent taken d limit (joined (take i pieces)) → events d ≡ []
    → taken ≡ handshakes (events (fed (silent limit) (joined pieces)))
at_end_all pieces i taken d limit all was none =
    sent_all (joined pieces) taken d limit
    (subst (λ x. IsSent taken d limit (joined x)) (take_all i pieces all) was)
    (ap handshakes none)
