-- The events of a side one by one, up to the one that ends it.
use Rattle.std.proofs.Common.{
  ◌≡◌,
  ℕ,
  ◌+◌,
  ◌-◌,
  ◌^◌,
  ◌≤◌,
  ◌⊎◌,
  inl,
  inr,
  List,
  [],
  ◌∷◌,
  length,
  Bool,
  true,
  false,
  ◌||◌,
  Option,
  Some,
  None,
  refl,
  sym,
  ◌∙◌,
  ap,
  subst,
  arith,
}
use Rattle.std.specs.Global.{Vec}
use Rattle.layouts.specs.Bytes.{Bytes}
use Rattle.tls_stream.specs.Item.{Event as StreamEvent}
use Rattle.tls_flow.specs.declared.symbol.Direction.{Direction as Side}
use Rattle.tls_flow.specs.declared.symbol.Direction.TheVariants.{ToServer, FromServer}
use Rattle.tls_stream.specs.Readers.{IsFedBy, IsPast, reader_of}
use Rattle.tls_stream.specs.SideReaders.{IsReady, first_in, front_of, further_events}
use Rattle.tls_stream.specs.declared.conversation_reader.ConversationReader.{ConversationReader}
use Rattle.tls_analyzer.specs.Following.{IsFed, IsNextTaken, IsNoted, known_of}
use Rattle.tls_observer.specs.History.{history, letter_of, with_letter}
use Rattle.tls_observer.specs.Noting.{Known, has_sealed, is_sealed, known}
use Rattle.tls_analyzer.specs.Analyzers.{
  AreReceived,
  IsFollowed,
  IsLeft,
  IsNext,
  IsNextBy,
  IsTaken,
  side_state,
  side_state_behind,
  is_over,
  over_behind,
  over_by,
  sealed_if,
  with_side_state,
}
use Rattle.tls_analyzer.specs.declared.conversation_state.ConversationState.{ConversationState}
use Rattle.tls_analyzer.specs.declared.analyzer.SideState.{SideState}
use Rattle.tls_analyzer.specs.declared.analyzer.SideState.TheVariants.{Encrypted}
use Rattle.tls_analyzer.specs.declared.analyzer.Analyzer.{Analyzer}
use Rattle.tls_analyzer.proofs.KnownLemmas.{known_next, known_same}
use Rattle.tls_analyzer.proofs.AnalyzerLemmas.{side_state_is, sealed_twice, with_again}

-- The side was fed, and n events were taken, before none of which it was over.
pub record IsOn (t : Analyzer) (s : Side) (p : Bytes) (u : Analyzer) (n : ℕ) : Type 0 where
  pub begun : ConversationReader
  pub sent : List StreamEvent
  pub fed : IsFedBy t.conversation_state.reader s p begun
  pub past : IsPast begun s sent u.conversation_state.reader
  pub received : AreReceived (side_state t s) s (known_of t.conversation_state) sent
  pub known : known_of u.conversation_state ≡ known s (known_of t.conversation_state) sent
  pub history : u.conversation_state.history.items ≡ history s
      t.conversation_state.history.items sent
  pub same : u ≡ with_side_state (record t { conversation_state = u.conversation_state }) s
      (side_state_behind (side_state t s) sent)
  pub count : length sent ≡ n
  pub ready : IsReady (reader_of u.conversation_state.reader s)

with_same : (t : Analyzer) (s : Side) (h : ConversationState)
    → record t { conversation_state = h } ≡ with_side_state (record t { conversation_state = h }) s
    (side_state t s)
with_same t ToServer h = refl
with_same t FromServer h = refl

pub on_begun : (t : Analyzer) (h : ConversationState) (s : Side) (p : Bytes)
    → IsFed t.conversation_state s p h
    → IsReady (reader_of h.reader s)
    → IsOn t s p (record t { conversation_state = h }) 0
on_begun t h s p fed ready = record {
  begun = h.reader;
  sent = [];
  fed = fed.reader;
  past = refl;
  received = tt;
  known = known_same t.conversation_state h fed.flow fed.handshake fed.longest;
  history = ap (λ (v : Vec ℕ). v.items) fed.history;
  same = with_same t s h;
  count = refl;
  ready = ready;
}

-- Its events decide whether it is over.
over_is : (t u : Analyzer) (s : Side) (p : Bytes) (n : ℕ) (on : IsOn t s p u n)
    → is_over u s ≡ over_behind (side_state t s) s (known_of t.conversation_state) on.sent
over_is t u s p n on =
    ap (λ h. over_by h s (known_of u.conversation_state))
    (side_state_is t u s (side_state_behind (side_state t s) on.sent) on.same)
    ∙ ap (λ (k : Known). over_by (side_state_behind (side_state t s) on.sent) s k) on.known

-- The analyzer after an event, by whether that is encrypted.
abbrev pub next_analyzer : Analyzer → Side → ConversationState → Bool → Analyzer
next_analyzer u s h b =
    with_side_state (record u { conversation_state = h }) s (sealed_if b (side_state u s))

pub analyzer_with : (t : Analyzer) (s : Side) (h : SideState)
    → (with_side_state t s h).conversation_state ≡ t.conversation_state
analyzer_with t ToServer h = refl
analyzer_with t FromServer h = refl

value : {a b : Bool} → Some a ≡ Some b → a ≡ b
value e = cc

-- The event that was removed, by whether it is encrypted.
pub taken_sealed : (o : Option StreamEvent) (t : Analyzer) (h : ConversationState) (s : Side)
    → IsNextTaken o t.conversation_state s (Some true) h
    → IsTaken o t s true (with_side_state (record t { conversation_state = h }) s Encrypted)
taken_sealed (Some v) t h s some =
    let its : (with_side_state (record t { conversation_state = h }) s Encrypted).conversation_state
    ≡ h =
    analyzer_with (record t { conversation_state = h }) s
    Encrypted in (
      refl,
      subst (λ x. IsNoted t.conversation_state s v x) (sym its) some.1,
      ap (λ b. with_side_state (record t { conversation_state = h }) s (sealed_if b (side_state t s)))
          (value some.0)
          ∙ ap (λ x. with_side_state (record t { conversation_state = x }) s
          (sealed_if (is_sealed v) (side_state t s))) (sym its),
    )
taken_sealed None t h s none = absurd cc

pub taken_plain : (o : Option StreamEvent) (t : Analyzer) (h : ConversationState) (s : Side)
    → IsNextTaken o t.conversation_state s (Some false) h
    → IsTaken o t s true (record t { conversation_state = h })
taken_plain (Some v) t h s some = (
  refl,
  some.1,
  with_same t s h
      ∙ ap (λ b. with_side_state (record t { conversation_state = h }) s (sealed_if b (side_state t s)))
      (value some.0),
)
taken_plain None t h s none = absurd cc

pub taken_none : (o : Option StreamEvent) (t : Analyzer) (h : ConversationState) (s : Side)
    → IsNextTaken o t.conversation_state s None h
    → IsTaken o t s false (record t { conversation_state = h })
taken_none (Some v) t h s some = absurd cc
taken_none None t h s none = (refl, ap (λ x. record t { conversation_state = x }) none.1)

next_same : (t u : Analyzer) (h : ConversationState) (s : Side) (p : Bytes) (n : ℕ) (b : Bool)
    (on : IsOn t s p u n)
    → next_analyzer u s h b ≡ with_side_state (record t { conversation_state = h }) s
    (sealed_if (has_sealed on.sent || b) (side_state t s))
next_same t u h s p n b on =
    ap (λ x. with_side_state (record x { conversation_state = h }) s (sealed_if b (side_state u s)))
    on.same
    ∙ with_again t s u.conversation_state h (side_state_behind (side_state t s) on.sent)
    (sealed_if b (side_state u s))
    ∙ ap (λ x. with_side_state (record t { conversation_state = h }) s (sealed_if b x))
    (side_state_is t u s (side_state_behind (side_state t s)
    on.sent) on.same)
    ∙ ap (λ x. with_side_state (record t { conversation_state = h }) s x)
    (sealed_twice (has_sealed on.sent) b (side_state t s))

on_some : (t u w : Analyzer) (s : Side) (p : Bytes) (n : ℕ) (v : StreamEvent) → IsOn t s p u n
    → is_over u s ≡ false
    → IsNoted u.conversation_state s v w.conversation_state
    → (IsReady (reader_of u.conversation_state.reader s)
    → IsReady (reader_of w.conversation_state.reader s))
    → w ≡ next_analyzer u s w.conversation_state (is_sealed v)
    → IsOn t s p w (n + 1)
on_some t u w s p n v on clear noted_it kept same = record {
  begun = on.begun;
  sent = v ∷ on.sent;
  fed = on.fed;
  past = (u.conversation_state.reader, on.past, noted_it.behind);
  received = (sym (over_is t u s p n on) ∙ clear, on.received);
  known = known_next s u.conversation_state w.conversation_state
      (known s (known_of t.conversation_state) on.sent) v noted_it on.known;
  history = noted_it.history ∙ ap (λ x. with_letter s x (letter_of v)) on.history;
  same = same ∙ next_same t u w.conversation_state s p n (is_sealed v) on;
  count = omega (arith, on.count);
  ready = kept on.ready;
}

-- An event was removed.
pub on_next : (t u w : Analyzer) (s : Side) (p : Bytes) (n : ℕ) → IsOn t s p u n
    → is_over u s ≡ false
    → IsTaken (front_of (reader_of u.conversation_state.reader s)) u s true w
    → (IsReady (reader_of u.conversation_state.reader s)
    → IsReady (reader_of w.conversation_state.reader s))
    → IsOn t s p w (n + 1)
on_next t u w s p n on clear taken kept =
    go (front_of (reader_of u.conversation_state.reader s)) taken
  where
    go : (o : Option StreamEvent) → IsTaken o u s true w → IsOn t s p w (n + 1)
    go (Some v) some = on_some t u w s p n v on clear some.1 kept some.2
    go None none = absurd cc

silent : (vs : List StreamEvent) → first_in vs ≡ None → vs ≡ []
silent [] e = refl
silent (v ∷ vs) e = absurd cc

left_by : (b : Bool) (s : Side) (vs : List StreamEvent) (c : ConversationReader) → b ≡ false
    → (further_events (reader_of c s) [] ≡ [])
    ⊎ (2 ^ 64 - 1 ≤ length vs) → IsLeft b s vs c c
left_by b s vs c clear all = subst (λ b. IsLeft b s vs c c) (sym clear) (refl, all)

over_left : (b : Bool) (s : Side) (vs : List StreamEvent) (c : ConversationReader) → b ≡ true → IsLeft b s vs c c
over_left b s vs c over = subst (λ b. IsLeft b s vs c c) (sym over) (refl, refl)

on_left : (t u : Analyzer) (s : Side) (p : Bytes) (n : ℕ) (on : IsOn t s p u n)
    → IsLeft (over_behind (side_state t s) s (known_of t.conversation_state) on.sent) s on.sent
    u.conversation_state.reader
    u.conversation_state.reader
    → IsFollowed t s p u
on_left t u s p n on left = record {
  begun = on.begun;
  behind = u.conversation_state.reader;
  sent = on.sent;
  fed = on.fed;
  past = on.past;
  received = on.received;
  left = left;
  known = on.known;
  history = on.history;
  same = on.same;
}

-- The side is over.
pub on_over : (t u : Analyzer) (s : Side) (p : Bytes) (n : ℕ) → IsOn t s p u n → is_over u s ≡ true
    → IsFollowed t s p u
on_over t u s p n on over = on_left t u s p n on
    (over_left (over_behind (side_state t s) s (known_of t.conversation_state) on.sent) s on.sent
    u.conversation_state.reader
    (sym (over_is t u s p n on) ∙ over))

on_clear : (t u : Analyzer) (s : Side) (p : Bytes) (n : ℕ) (on : IsOn t s p u n)
    → is_over u s ≡ false
    → (further_events (reader_of u.conversation_state.reader s) [] ≡ []) ⊎ (2 ^ 64 - 1 ≤ length on.sent)
    → IsFollowed t s p u
on_clear t u s p n on clear all = on_left t u s p n on
    (left_by (over_behind (side_state t s) s (known_of t.conversation_state) on.sent) s on.sent
    u.conversation_state.reader
    (sym (over_is t u s p n on) ∙ clear) all)

-- The side has no event for now.
pub on_none : (t u w : Analyzer) (s : Side) (p : Bytes) (n : ℕ) → IsOn t s p u n
    → is_over u s ≡ false
    → IsTaken (front_of (reader_of u.conversation_state.reader s)) u s false w → IsFollowed t s p w
on_none t u w s p n on clear taken =
    go (front_of (reader_of u.conversation_state.reader s)) refl taken
  where
    go : (o : Option StreamEvent) → o ≡ front_of (reader_of u.conversation_state.reader s)
        → IsTaken o u s false w
        → IsFollowed t s p w
    go (Some v) front some = absurd cc
    go None front none = subst (λ x. IsFollowed t s p x) (sym none.1)
        (on_clear t u s p n on clear
        (inl (silent (further_events (reader_of u.conversation_state.reader s) []) (on.ready ∙ sym front))))

-- As many events were taken as are counted.
pub on_end : (t u : Analyzer) (s : Side) (p : Bytes) (n : ℕ) → IsOn t s p u n → n ≡ 2 ^ 64 - 1
    → IsFollowed t s p u
on_end t u s p n on end = go (is_over u s) refl
  where
    go : (b : Bool) → is_over u s ≡ b → IsFollowed t s p u
    go true over = on_over t u s p n on over
    go false clear = on_clear t u s p n on clear (inr (omega (arith, on.count, end)))

pub next_clear : (t u : Analyzer) (s : Side) (p : Bytes) → is_over t s ≡ false → IsFollowed t s p u
    → IsNext t s p u
next_clear t u s p clear followed = subst (λ b. IsNextBy b t s p u) (sym clear) followed

pub next_over : (t : Analyzer) (s : Side) (p : Bytes) → is_over t s ≡ true → IsNext t s p t
next_over t s p over = subst (λ b. IsNextBy b t s p t) (sym over) refl
