-- Reading the pieces has the same result as reading their turns.
use Rattle.std.proofs.Common.{
  ◌≡◌,
  ℕ,
  suc,
  ◌+◌,
  ◌<◌,
  ◌≤◌,
  List,
  [],
  ◌∷◌,
  ◌++◌,
  length,
  take,
  get_or,
  refl,
  sym,
  ◌∙◌,
  ap,
  subst,
  arith,
}
use Rattle.std.specs.Borrow.{Bor}
use Rattle.std.proofs.Math.Seq.{take-suc}
use Rattle.std.proofs.lemmas.List.{map-append, take_all}
use Rattle.layouts.specs.Bytes.{Bytes}
use Rattle.tls_flow.specs.declared.symbol.Direction.{Direction as Side}
use Rattle.tls_flow.specs.declared.symbol.Direction.TheVariants.{ToServer, FromServer}
use Rattle.tls_stream.specs.Conversations.{views}
use Rattle.tls_analyzer.specs.Following.{onto, turns}
use Rattle.tls_analyzer.specs.Analyzers.{AreReadOn, IsReadOn}
use Rattle.tls_analyzer.specs.declared.analyzer.Analyzer.{Analyzer}
use Rattle.tls_analyzer.proofs.FirstLemmas.{both_received}

-- A piece before turns.
onto_received : (t m u : Analyzer) (p : Side × Bytes) (ts : List (Side × Bytes))
    → IsReadOn t p.0 p.1 m → AreReadOn m ts u
    → AreReadOn t (onto p ts) u
onto_received t m u p [] first rest = (m, first, rest)
onto_received t m u (ToServer, p) ((ToServer, q) ∷ ts) first rest = (
  rest.0,
  both_received t m rest.0 ToServer p q first
      rest.1,
  rest.2,
)
onto_received t m u (FromServer, p) ((FromServer, q) ∷ ts) first rest = (
  rest.0,
  both_received t m rest.0 FromServer p q first
      rest.1,
  rest.2,
)
onto_received t m u (ToServer, p) ((FromServer, q) ∷ ts) first rest = (m, first, rest)
onto_received t m u (FromServer, p) ((ToServer, q) ∷ ts) first rest = (m, first, rest)

turns_received : (t u : Analyzer) (ps : List (Side × Bytes)) → AreReadOn t ps u
    → AreReadOn t (turns ps) u
turns_received t u [] received = received
turns_received t u (p ∷ ps) received =
    onto_received t received.0 u p (turns ps) received.1 (turns_received received.0 u ps received.2)

-- One more piece.
one_more : (t m u : Analyzer) (ps : List (Side × Bytes)) (s : Side) (p : Bytes) → AreReadOn t ps m
    → IsReadOn m s p u
    → AreReadOn t (ps ++ (s, p) ∷ []) u
one_more t m u [] s p received last = (u, subst (λ x. IsReadOn x s p u) received last, refl)
one_more t m u (q ∷ ps) s p received last =
    (received.0, received.1, one_more received.0 m u ps s p received.2 last)

pub piece_received : (t m u : Analyzer) (pieces : List (Side × Bor (List ℕ))) (n : ℕ)
    (q : Side × Bor (List ℕ))
    → n < length pieces
    → AreReadOn t (views (take n pieces)) m
    → IsReadOn m (get_or pieces n q).0 (get_or pieces n q).1.now u
    → AreReadOn t (views (take (n + 1) pieces)) u
piece_received t m u pieces n q within received last =
    let one : n + 1 ≡ suc n = omega arith in
    let next : views (take (n + 1) pieces) ≡ views (take n pieces)
    ++ ((get_or pieces n q).0, (get_or pieces n q).1.now)
    ∷ []
    = ap (λ k. views (take k pieces)) one ∙ ap views (take-suc pieces n q within)
    ∙ map-append (λ (p : Side × Bor (List ℕ)). (p.0, p.1.now)) (take n pieces)
    (get_or pieces n q ∷ []) in
    subst (λ ps. AreReadOn t ps u) (sym next)
    (one_more t m u (views (take n pieces)) (get_or pieces n q).0 (get_or pieces n q).1.now
    received last)

pub all_received : (t u : Analyzer) (pieces : List (Side × Bor (List ℕ))) (n : ℕ) → length pieces ≤ n
    → AreReadOn t (views (take n pieces)) u
    → AreReadOn t (turns (views pieces)) u
all_received t u pieces n all received =
    turns_received t u (views pieces)
    (subst (λ ps. AreReadOn t (views ps) u) (take_all n pieces all) received)
