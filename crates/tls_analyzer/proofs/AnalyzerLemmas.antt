-- Reading a side's piece in two parts has the same result as reading it whole, up to the event that
-- ends the side.
use Rattle.std.proofs.Common.{
  ◌≡◌,
  ◌-◌,
  ◌^◌,
  inl,
  inr,
  List,
  [],
  ◌∷◌,
  ◌++◌,
  Bool,
  true,
  false,
  ◌||◌,
  refl,
  sym,
  ◌∙◌,
  ap,
  subst,
}
use Rattle.layouts.specs.Bytes.{Bytes}
use Rattle.tls_stream.specs.Item.{Event as StreamEvent}
use Rattle.tls_flow.specs.declared.symbol.Direction.{Direction as Side}
use Rattle.tls_flow.specs.declared.symbol.Direction.TheVariants.{ToServer, FromServer}
use Rattle.tls_stream.specs.Readers.{IsPast}
use Rattle.tls_stream.specs.declared.conversation_reader.ConversationReader.{ConversationReader}
use Rattle.tls_observer.specs.History.{history}
use Rattle.tls_analyzer.specs.Following.{known_of}
use Rattle.tls_observer.specs.Noting.{Known, has_sealed, known}
use Rattle.tls_analyzer.specs.Analyzers.{
  AreReceived,
  IsFollowed,
  IsReadBy,
  IsReadOn,
  IsLeft,
  IsNext,
  IsNextBy,
  side_state,
  side_state_behind,
  is_over,
  over_behind,
  over_by,
  sealed_if,
  with_side_state,
}
use Rattle.tls_analyzer.specs.declared.conversation_state.ConversationState.{ConversationState}
use Rattle.tls_analyzer.specs.declared.analyzer.SideState.{SideState}
use Rattle.tls_analyzer.specs.declared.analyzer.SideState.TheVariants.{Unknown, Clear, Encrypted, Other}
use Rattle.tls_analyzer.specs.declared.analyzer.Analyzer.{Analyzer}
use Rattle.tls_analyzer.proofs.KnownLemmas.{known_on}
use Rattle.tls_analyzer.proofs.CutLemmas.{
  fed_further,
  further,
  history_on,
  joined,
  longer,
  past_further,
  sealed_on,
}

pub sealed_twice : (a b : Bool) (h : SideState) → sealed_if b (sealed_if a h) ≡ sealed_if (a || b) h
sealed_twice true true h = refl
sealed_twice true false h = refl
sealed_twice false b h = refl

side_state_on : (h : SideState) (vs ws : List StreamEvent)
    → side_state_behind (side_state_behind h vs) ws ≡ side_state_behind h (ws ++ vs)
side_state_on h vs ws = sealed_twice (has_sealed vs) (has_sealed ws) h
    ∙ ap (λ b. sealed_if b h) (sym (sealed_on vs ws))

over_on : (h : SideState) (s : Side) (k : Known) (vs ws : List StreamEvent)
    → over_behind (side_state_behind h vs) s (known s k vs) ws ≡ over_behind h s k (ws ++ vs)
over_on h s k vs ws =
    ap (λ x. over_by x s (known s (known s k vs) ws)) (side_state_on h vs ws)
    ∙ ap (λ (x : Known). over_by (side_state_behind h (ws ++ vs)) s x) (known_on s k vs ws)

received_on : (h : SideState) (s : Side) (k : Known) (vs ws : List StreamEvent) → AreReceived h s k vs
    → AreReceived (side_state_behind h vs) s (known s k vs) ws → AreReceived h s k (ws ++ vs)
received_on h s k vs [] first last = first
received_on h s k vs (w ∷ ws) first last =
    (sym (over_on h s k vs ws) ∙ last.0, received_on h s k vs ws first last.1)

-- The parts of an analyzer besides what is known of a side, and that.
pub side_state_with : (t : Analyzer) (s : Side) (h : SideState) → side_state (with_side_state t s h) s ≡ h
side_state_with t ToServer h = refl
side_state_with t FromServer h = refl

pub with_again : (t : Analyzer) (s : Side) (a b : ConversationState) (h g : SideState)
    → with_side_state
    (record (with_side_state (record t { conversation_state = a }) s h) { conversation_state = b }) s
    g ≡ with_side_state (record t {
      conversation_state = b;
    }) s g
with_again t ToServer a b h g = refl
with_again t FromServer a b h g = refl

pub side_state_is : (t u : Analyzer) (s : Side) (h : SideState)
    → u ≡ with_side_state (record t { conversation_state = u.conversation_state }) s h
    → side_state u s ≡ h
side_state_is t u s h same = ap (λ x. side_state x s) same
    ∙ side_state_with (record t { conversation_state = u.conversation_state }) s h

-- What is known of a side after a piece follows from its events.
side_state_of : (t u : Analyzer) (s : Side) (p : Bytes) (received : IsFollowed t s p u)
    → side_state u s ≡ side_state_behind (side_state t s) received.sent
side_state_of t u s p received = side_state_is t u s (side_state_behind (side_state t s) received.sent) received.same

over_of : (t u : Analyzer) (s : Side) (p : Bytes) (received : IsFollowed t s p u)
    → is_over u s ≡ over_behind (side_state t s) s (known_of t.conversation_state) received.sent
over_of t u s p received =
    ap (λ h. over_by h s (known_of u.conversation_state)) (side_state_of t u s p received)
    ∙ ap (λ (k : Known). over_by (side_state_behind (side_state t s) received.sent) s k)
    received.known

left_further : (s : Side) (vs : List StreamEvent) (q : Bytes) (c d : ConversationReader) → IsLeft true s vs c d
    → IsLeft true s vs (further c s q) d
left_further ToServer vs q c d left = left
left_further FromServer vs q c d left = left

left_longer : (b : Bool) (s : Side) (vs ws : List StreamEvent) (c d : ConversationReader) → IsLeft b s ws c d
    → IsLeft b s (ws ++ vs) c d
left_longer true s vs ws c d left = left
left_longer false s vs ws c d (same, inl none) = (same, inl none)
left_longer false s vs ws c d (same, inr few) = (same, inr (longer vs ws (2 ^ 64 - 1) few))

-- After the event that ends the side nothing more is read.
over_still : (t m : Analyzer) (s : Side) (p q : Bytes) (first : IsFollowed t s p m)
    → over_behind (side_state t s) s (known_of t.conversation_state) first.sent ≡ true
    → IsFollowed t s (p ++ q) m
over_still t m s p q first over = record {
  begun = further first.begun s q;
  behind = further first.behind s q;
  sent = first.sent;
  fed = fed_further t.conversation_state.reader first.begun s p q first.fed;
  past = past_further first.begun first.behind s first.sent q first.past;
  received = first.received;
  left = subst
      (λ b. IsLeft b s first.sent (further first.behind s q) m.conversation_state.reader)
      (sym over)
      (left_further s first.sent q first.behind m.conversation_state.reader
      (subst (λ b. IsLeft b s first.sent first.behind m.conversation_state.reader) over
      first.left));
  known = first.known;
  history = first.history;
  same = first.same;
}

both_followed : (t m u : Analyzer) (s : Side) (p q : Bytes) (first : IsFollowed t s p m)
    → over_behind (side_state t s) s (known_of t.conversation_state) first.sent ≡ false
    → IsFollowed m s q u
    → IsFollowed t s (p ++ q) u
both_followed t m u s p q first over last =
    let left : IsLeft false s first.sent first.behind m.conversation_state.reader =
    subst (λ b. IsLeft b s first.sent first.behind m.conversation_state.reader) over
    first.left in
    let whole = joined t.conversation_state.reader first.begun
    m.conversation_state.reader last.begun
    last.behind s p q first.sent
    last.sent first.fed
    (subst (λ c. IsPast first.begun s first.sent c) (sym left.0) first.past) last.fed last.past in
    let at_side_state : side_state m s ≡ side_state_behind (side_state t s) first.sent =
    side_state_of t m s p first in
    record {
      begun = whole.begun;
      behind = last.behind;
      sent = last.sent ++ first.sent;
      fed = whole.fed;
      past = whole.past;
      received = received_on (side_state t s) s (known_of t.conversation_state) first.sent last.sent
          first.received
          (subst (λ h. AreReceived h s (known s (known_of t.conversation_state) first.sent) last.sent)
          at_side_state
          (subst (λ k. AreReceived (side_state m s) s k last.sent) first.known last.received));
      left = left_longer
          (over_behind (side_state t s) s (known_of t.conversation_state) (last.sent ++ first.sent))
          s first.sent
          last.sent last.behind
          u.conversation_state.reader
          (subst (λ b. IsLeft b s last.sent last.behind u.conversation_state.reader)
          (ap (λ h. over_behind h s (known_of m.conversation_state) last.sent) at_side_state
          ∙ ap (λ k. over_behind (side_state_behind (side_state t s) first.sent) s k last.sent)
          first.known
          ∙ over_on (side_state t s) s (known_of t.conversation_state) first.sent
          last.sent) last.left);
      known = last.known ∙ ap (λ k. known s k last.sent) first.known
          ∙ known_on s (known_of t.conversation_state) first.sent last.sent;
      history = last.history ∙ ap (λ h. history s h last.sent) first.history
          ∙ history_on s t.conversation_state.history.items first.sent last.sent;
      same = last.same
          ∙ ap (λ x. with_side_state (record x { conversation_state = u.conversation_state }) s
          (side_state_behind (side_state m s)
          last.sent)) first.same
          ∙ with_again t s m.conversation_state u.conversation_state
          (side_state_behind (side_state t s) first.sent)
          (side_state_behind (side_state m s)
          last.sent)
          ∙ ap (λ h. with_side_state (record t { conversation_state = u.conversation_state }) s
          (side_state_behind h last.sent))
          at_side_state
          ∙ ap (λ h. with_side_state (record t { conversation_state = u.conversation_state }) s h)
          (side_state_on (side_state t s) first.sent last.sent);
    }

pub followed_on : (t m u : Analyzer) (s : Side) (p q : Bytes) → IsFollowed t s p m → IsNext m s q u
    → IsFollowed t s (p ++ q) u
followed_on t m u s p q first last =
    go (over_behind (side_state t s) s (known_of t.conversation_state) first.sent) refl
    (subst (λ b. IsNextBy b m s q u) (over_of t m s p first) last)
  where
    go : (b : Bool) → over_behind (side_state t s) s (known_of t.conversation_state) first.sent ≡ b
        → IsNextBy b m s q u
        → IsFollowed t s (p ++ q) u
    go true over next =
        subst (λ x. IsFollowed t s (p ++ q) x) (sym next) (over_still t m s p q first over)
    go false over next = both_followed t m u s p q first over next

pub next_on : (t m u : Analyzer) (s : Side) (p q : Bytes) → IsNext t s p m → IsNext m s q u
    → IsNext t s (p ++ q) u
next_on t m u s p q first last = go (is_over t s) refl first
  where
    go : (b : Bool) → is_over t s ≡ b → IsNextBy b t s p m → IsNextBy b t s (p ++ q) u
    go true over next = subst (λ b. IsNextBy b t s q u) over (subst (λ x. IsNext x s q u) next last)
    go false over next = followed_on t m u s p q next last

-- Whether it is known if a side is TLS.
abbrev pub IsKnown : SideState → Type 0
IsKnown h = h ≡ Unknown → ⊥

known_behind : (h : SideState) (b : Bool) → IsKnown h → IsKnown (sealed_if b h)
known_behind h true known = λ e. absurd cc
known_behind h false known = known

pub known_next : (t u : Analyzer) (s : Side) (p : Bytes) → IsKnown (side_state t s) → IsNext t s p u
    → IsKnown (side_state u s)
known_next t u s p known next = go (is_over t s) next
  where
    go : (b : Bool) → IsNextBy b t s p u → IsKnown (side_state u s)
    go true same = subst (λ x. IsKnown (side_state x s)) (sym same) known
    go false followed = subst IsKnown (sym (side_state_of t u s p followed))
        (known_behind (side_state t s) (has_sealed followed.sent) known)

pub received_next : (t u : Analyzer) (s : Side) (b : Bytes) (h : SideState) → IsKnown h
    → IsReadBy h t s b u → IsNext t s b u
received_next t u s b Unknown known received = absurd (known refl)
received_next t u s b Clear known received = received
received_next t u s b Encrypted known received = received
received_next t u s b Other known received = received

next_received : (t u : Analyzer) (s : Side) (b : Bytes) (h : SideState) → IsKnown h → IsNext t s b u
    → IsReadBy h t s b u
next_received t u s b Unknown known received = absurd (known refl)
next_received t u s b Clear known received = received
next_received t u s b Encrypted known received = received
next_received t u s b Other known received = received

pub both_known : (t m u : Analyzer) (s : Side) (p q : Bytes) → IsKnown (side_state t s)
    → IsReadOn t s p m
    → IsReadOn m s q u → IsReadOn t s (p ++ q) u
both_known t m u s p q known first last =
    let next : IsNext t s p m = received_next t m s p (side_state t s) known first in
    next_received t u s (p ++ q) (side_state t s) known (next_on t m u s p q next
    (received_next m u s q (side_state m s) (known_next t m s p known next) last))
