-- Conversations, given the pieces of both sides.
use Rattle.std.proofs.Common.{
  ◌≡◌,
  ℕ,
  suc,
  ◌+◌,
  ◌<◌,
  ◌≤◌,
  List,
  [],
  ◌∷◌,
  ◌++◌,
  length,
  take,
  get_or,
  map,
  Bool,
  true,
  false,
  cond,
  not,
  ◌&&◌,
  ◌||◌,
  Option,
  Some,
  None,
  refl,
  sym,
  ◌∙◌,
  ap,
  subst,
  arith,
}
use Rattle.std.specs.Borrow.{Bor}
use Rattle.std.proofs.Math.Seq.{take-suc}
use Rattle.std.proofs.lemmas.List.{map-append, take_all}
use Rattle.layouts.specs.Bytes.{Bytes}
use Rattle.tls_stream.specs.Item.{Event as StreamEvent}
use Rattle.tls_words.specs.Words.{run}
use Rattle.tls_words.proofs.MachineLemmas.{run_on}
use Rattle.tls_flow.specs.Steps.{follow}
use Rattle.tls_flow.specs.Table.{outcome_at}
use Rattle.tls_flow.specs.declared.event.FlowEvent.{FlowEvent}
use Rattle.tls_flow.specs.declared.symbol.Direction.{Direction as Side}
use Rattle.tls_flow.proofs.FlowLemmas.{flow_of_run}
use Rattle.tls_stream.specs.Conversations.{
  FollowsPieces,
  IsBegun,
  IsBehind,
  IsFedBy,
  IsPieceFollowed,
  IsOutcomeOf,
  IsTakenBy,
  Drains,
  reader_of,
  views,
}
use Rattle.tls_stream.specs.Readers.{IsEventOf, IsSwitchedIf, switches}
use Rattle.tls_stream.specs.Readers as readers
use Rattle.tls_stream.specs.SideReaders.{IsReady, first_in, front_of, further_events}
use Rattle.tls_stream.specs.FlowEvents.{chooses_tls13, event_of}
use Rattle.tls_stream.specs.declared.conversation.Conversation.{Conversation}
use Rattle.tls_stream.specs.declared.side_reader.SideReader.{SideReader}

-- The flow follows a side's events.
flow_of_events : (c d : Conversation) (s : Side) (vs : List StreamEvent) → Drains c s vs d
    → d.flow ≡ run follow c.flow (map (event_of s) vs)
flow_of_events c d s [] h = ap (λ (x : Conversation). x.flow) h.1
flow_of_events c d s (v ∷ vs) h =
    flow_of_events h.0 d s vs h.2 ∙ ap (λ f. run follow f (map (event_of s) vs)) h.1.flow

pub flow_followed : (c d : Conversation) (ps : List (Side × Bytes)) (es : List FlowEvent)
    → FollowsPieces c ps es d
    → d.flow ≡ run follow c.flow es
flow_followed c d [] es h = ap (λ (x : Conversation). x.flow) h.1 ∙ ap (run follow c.flow) (sym h.0)
flow_followed c d (p ∷ ps) es h =
    flow_followed h.1 d ps h.3 h.7
    ∙ ap (λ f. run follow f h.3)
    (flow_of_events h.0 h.1 p.0 h.2 h.6 ∙ ap (λ f. run follow f (map (event_of p.0) h.2)) h.5.flow)
    ∙ sym (run_on follow c.flow (map (event_of p.0) h.2) h.3)
    ∙ ap (run follow c.flow) (sym h.4)

-- One more piece.
pub one_more : (c d e : Conversation) (ps : List (Side × Bytes)) (es : List FlowEvent) (s : Side)
    (p : Bytes)
    → FollowsPieces c ps es d → IsPieceFollowed d s p e
    → (fs : List FlowEvent) × FollowsPieces c (ps ++ (s, p) ∷ []) fs e
one_more c d e [] es s p h last = (
  map (event_of s) last.1 ++ [],
  (last.0, e, last.1, [], refl, subst (λ x. IsFedBy x s p last.0) h.1 last.2, last.3, (refl, refl)),
)
one_more c d e (q ∷ ps) es s p h last =
    let k = one_more h.1 d e ps h.3 s p h.7 last in
    (map (event_of q.0) h.2 ++ k.0, (h.0, h.1, h.2, k.0, refl, h.5, h.6, k.1))

pub outcome_is : (c d : Conversation) (limit : ℕ) (ps : List (Side × Bytes)) (es : List FlowEvent)
    → IsBegun limit c
    → FollowsPieces c ps es d
    → IsOutcomeOf (outcome_at d.flow.state) limit ps
outcome_is c d limit ps es begun h = (
  es,
  (c, d, begun, h),
  (flow_of_run es c.flow d.flow (flow_followed c d ps es h) begun.flow
      (outcome_at d.flow.state)).0 refl,
)

-- The reader took an event, which was followed.
pub event_followed : (c d : Conversation) (s : Side) (e : FlowEvent) (t : Bool)
    → (IsEventOf e s (front_of (reader_of c s))
    → readers.IsTakenBy (front_of (reader_of c s)) c.reader s t d.reader)
    → t ≡ true → d.flow ≡ follow c.flow e
    → IsEventOf e s (front_of (reader_of c s)) → IsTakenBy (front_of (reader_of c s)) c s true d
event_followed c d s e t taken took flow is = go (front_of (reader_of c s)) is (taken is)
  where
    go : (o : Option StreamEvent) → IsEventOf e s o → readers.IsTakenBy o c.reader s t d.reader
        → IsTakenBy o c s true d
    go None is none = let bad : true ≡ false = sym took ∙ none.0 in absurd cc
    go (Some v) is some =
        (refl, record { reader = some.1; flow = flow ∙ ap (follow c.flow) is })

-- It had none.
pub none_followed : (c d : Conversation) (s : Side) (e : FlowEvent) (t : Bool)
    → (IsEventOf e s (front_of (reader_of c s))
    → readers.IsTakenBy (front_of (reader_of c s)) c.reader s t d.reader)
    → t ≡ false → d ≡ record c { reader = d.reader }
    → IsEventOf e s (front_of (reader_of c s)) → IsTakenBy (front_of (reader_of c s)) c s false d
none_followed c d s e t taken none same is = go (front_of (reader_of c s)) (taken is)
  where
    go : (o : Option StreamEvent) → readers.IsTakenBy o c.reader s t d.reader → IsTakenBy o c s false d
    go None off = (refl, same ∙ ap (λ x. record c { reader = x }) off.1)
    go (Some v) some = let bad : true ≡ false = sym some.0 ∙ none in absurd cc

-- A side's events are taken one by one: those after the first ones were there before them too.
pub record IsOn (c : Conversation) (s : Side) (m : Conversation) : Type 0 where
  pub ready : IsReady (reader_of m s)
  pub on : (vs : List StreamEvent) (d : Conversation) → Drains m s vs d
      → (us : List StreamEvent) × Drains c s us d

pub on_first : (c : Conversation) (s : Side) → IsReady (reader_of c s) → IsOn c s c
on_first c s ready = record { ready = ready; on = λ vs d h. (vs, h) }

none_first : (vs : List StreamEvent) → first_in vs ≡ None → vs ≡ []
none_first [] e = refl
none_first (v ∷ vs) e = cc

pub on_more : (c m n : Conversation) (s : Side) (t : Bool) → IsOn c s m → t ≡ true
    → IsTakenBy (front_of (reader_of m s)) m s t n
    → (IsReady (reader_of m s) → IsReady (reader_of n s)) → IsOn c s n
on_more c m n s t on took taken ready = go (front_of (reader_of m s)) taken
  where
    go : (o : Option StreamEvent) → IsTakenBy o m s t n → IsOn c s n
    go None taken = let e : true ≡ false = sym took ∙ taken.0 in absurd cc
    go (Some v) taken =
        record { ready = ready on.ready; on = λ vs d h. on.on (v ∷ vs) d (n, taken.1, h) }

pub on_done : (c m n : Conversation) (s : Side) (t : Bool) → IsOn c s m → t ≡ false
    → IsTakenBy (front_of (reader_of m s)) m s t n
    → (vs : List StreamEvent) × Drains c s vs n
on_done c m n s t on none taken = go (front_of (reader_of m s)) refl taken
  where
    go : (o : Option StreamEvent) → front_of (reader_of m s) ≡ o → IsTakenBy o m s t n
        → (vs : List StreamEvent) × Drains c s vs n
    go None is taken =
        on.on [] n (none_first (further_events (reader_of m s) []) (on.ready ∙ is), taken.1)
    go (Some v) is taken = let e : true ≡ false = sym taken.0 ∙ none in absurd cc

-- Once TLS 1.3 is chosen, taking an event leaves one fewer.
same_count : (c : Conversation) (e : FlowEvent) (a b : SideReader) → c.reader.is_tls13 ≡ true
    → IsSwitchedIf (switches c.reader e) a b
    → further_events a [] ≡ further_events b []
same_count c e a b switched same =
    (subst (λ t. IsSwitchedIf t a b)
    (ap (λ x. not x && chooses_tls13 e.symbol.kind e.symbol.direction) switched) same) []

pub fewer : (m n : Conversation) (s : Side) (t : Bool) → m.reader.is_tls13 ≡ true → t ≡ true
    → IsTakenBy (front_of (reader_of m s)) m s t n
    → length (further_events (reader_of n s) []) < length (further_events (reader_of m s) [])
fewer m n s t switched took taken = go (front_of (reader_of m s)) taken
  where
    go : (o : Option StreamEvent) → IsTakenBy o m s t n
        → length (further_events (reader_of n s) []) < length (further_events (reader_of m s) [])
    go None taken = let e : true ≡ false = sym took ∙ taken.0 in absurd cc
    go (Some v) taken =
        let e = taken.1.reader.side.0 in
        let one : further_events (reader_of m s) [] ≡ v ∷ further_events e [] = taken.1.reader.side.1 [] in
        let same : further_events e [] ≡ further_events (reader_of n s) [] =
        same_count m (event_of s v) e (reader_of n s) switched taken.1.reader.side.2 in
        omega (arith, ap length one, ap length same)

-- Before that, taking an event leaves one fewer, or it chooses TLS 1.3.
abbrev pub left_tls12 : Conversation → Side → ℕ
left_tls12 c s = cond c.reader.is_tls13 0 (suc (length (further_events (reader_of c s) [])))

pub fewer_tls12 : (m n : Conversation) (s : Side) (t : Bool) → m.reader.is_tls13 ≡ false → t ≡ true
    → IsTakenBy (front_of (reader_of m s)) m s t n
    → left_tls12 n s < left_tls12 m s
fewer_tls12 m n s t not_emitted took taken = go (front_of (reader_of m s)) taken
  where
    by : (v : StreamEvent) (b : Bool) → switches m.reader (event_of s v) ≡ b → IsBehind m s v n
        → left_tls12 n s < suc (length (further_events (reader_of m s) []))
    by v true at behind =
        let switched : n.reader.is_tls13 ≡ true = behind.reader.is_tls13 ∙ ap (λ b. m.reader.is_tls13 || b) at
        ∙ ap (λ b. b || true) not_emitted in
        subst (λ b. cond b 0 (suc (length (further_events (reader_of n s) []))) < suc (length (further_events (reader_of m s) [])))
        (sym switched)
        (omega arith)
    by v false at behind =
        let e = behind.reader.side.0 in
        let one : further_events (reader_of m s) [] ≡ v ∷ further_events e [] = behind.reader.side.1 [] in
        let same : further_events e [] ≡ further_events (reader_of n s) [] =
        (subst (λ b. IsSwitchedIf b e (reader_of n s)) at behind.reader.side.2) [] in
        let still : n.reader.is_tls13 ≡ false = behind.reader.is_tls13 ∙ ap (λ b. m.reader.is_tls13 || b) at
        ∙ ap (λ b. b || false) not_emitted in
        subst (λ b. cond b 0 (suc (length (further_events (reader_of n s) []))) < suc (length (further_events (reader_of m s) [])))
        (sym still)
        (omega (arith, ap length one, ap length same))

    go : (o : Option StreamEvent) → IsTakenBy o m s t n → left_tls12 n s < left_tls12 m s
    go None taken = let e : true ≡ false = sym took ∙ taken.0 in absurd cc
    go (Some v) taken =
        subst (λ b. left_tls12 n s < cond b 0 (suc (length (further_events (reader_of m s) [])))) (sym not_emitted)
        (by v (switches m.reader (event_of s v)) refl taken.1)

still_by : (o : Option StreamEvent) (m n : Conversation) (s : Side) (t : Bool) → m.reader.is_tls13 ≡ true
    → IsTakenBy o m s t n
    → n.reader.is_tls13 ≡ true
still_by None m n s t switched taken = ap (λ (x : Conversation). x.reader.is_tls13) taken.1 ∙ switched
still_by (Some v) m n s t switched taken = taken.1.reader.is_tls13 ∙ ap (λ b. b || switches m.reader (event_of s v)) switched

pub still_tls13 : (m n : Conversation) (s : Side) (t : Bool) → m.reader.is_tls13 ≡ true
    → IsTakenBy (front_of (reader_of m s)) m s t n
    → n.reader.is_tls13 ≡ true
still_tls13 m n s t switched taken = still_by (front_of (reader_of m s)) m n s t switched taken

-- These pieces arrived from the beginning.
abbrev pub AreFollowed : ℕ → List (Side × Bytes) → Conversation → Type 0
AreFollowed limit ps d =
    (c : Conversation) × (es : List FlowEvent) × IsBegun limit c × FollowsPieces c ps es d

pub none_received : (limit : ℕ) (c : Conversation) → IsBegun limit c → AreFollowed limit [] c
none_received limit c begun = (c, [], begun, (refl, refl))

pub piece_followed : (limit : ℕ) (pieces : List (Side × Bor (List ℕ))) (i : ℕ)
    (q : Side × Bor (List ℕ))
    (d e : Conversation) → i < length pieces
    → AreFollowed limit (views (take i pieces)) d
    → IsPieceFollowed d (get_or pieces i q).0 (get_or pieces i q).1.now e
    → AreFollowed limit (views (take (i + 1) pieces)) e
piece_followed limit pieces i q d e within received last =
    let k = one_more received.0 d e (views (take i pieces)) received.1 (get_or pieces i q).0
    (get_or pieces i q).1.now received.3
    last in
    let one : i + 1 ≡ suc i = omega arith in
    let next : views (take (i + 1) pieces)
    ≡ views (take i pieces) ++ ((get_or pieces i q).0, (get_or pieces i q).1.now) ∷ []
    = ap (λ k. views (take k pieces)) one ∙ ap views (take-suc pieces i q within)
    ∙ map-append (λ (p : Side × Bor (List ℕ)). (p.0, p.1.now)) (take i pieces)
    (get_or pieces i q ∷ []) in
    (received.0, k.0, received.2, subst (λ ps. FollowsPieces received.0 ps k.0 e) (sym next) k.1)

pub all_followed : (limit : ℕ) (pieces : List (Side × Bor (List ℕ))) (i : ℕ) (d : Conversation)
    → length pieces ≤ i
    → AreFollowed limit (views (take i pieces)) d
    → IsOutcomeOf (outcome_at d.flow.state) limit (views pieces)
all_followed limit pieces i d all received =
    subst (λ ps. IsOutcomeOf (outcome_at d.flow.state) limit (views ps)) (take_all i pieces all)
    (outcome_is received.0 d limit (views (take i pieces)) received.1 received.2 received.3)
