-- Binary search in an increasing table.
use Rattle.std.proofs.Common.{
  ◌≡◌,
  ◌↔◌,
  ℕ,
  ◌<◌,
  ◌≤◌,
  List,
  length,
  Option,
  Some,
  Result,
  Ok,
  Err,
  get_or,
  slice_get,
  sym,
  ◌∙◌,
  ap,
  arith,
}
use Rattle.std.specs.Result.{result_ok}
use Rattle.std.specs.Ordering.{nat_cmp}
use Rattle.std.specs.List.Sorted.{IsStrictlyIncreasing, IsBinarySearchResult}
use Rattle.std.proofs.lemmas.List.Sorted.{searched}
use Rattle.std.proofs.lemmas.List.Kept.{AllPairs-from_increasing}
use Rattle.std.proofs.lemmas.Option.{slice_get-get_or, slice_get_within, get_or_from_slice_get}

-- an entry is at least each one before it
rises : (xs : List ℕ) → IsStrictlyIncreasing xs → (i j : ℕ) → i ≤ j → j < length xs
    → get_or xs i 0 ≤ get_or xs j 0
rises xs up i j h k =
    let below : i < j → get_or xs i 0 < get_or xs j 0 =
    λ l. AllPairs-from_increasing xs up i j 0 l k in
    let same : i ≡ j → get_or xs i 0 ≡ get_or xs j 0 = λ e. ap (λ n. get_or xs n 0) e in grind arith

-- numbers that increase with their positions: equal numbers have equal positions
same_place : (i j x y : ℕ) → (i < j → x < y) → (j < i → y < x) → x ≡ y → i ≡ j
same_place i j x y below above e = grind arith

no_place : (k i x n : ℕ) → (k < i → x < n) → (i ≤ k → n < x) → x ≡ n → ⊥
no_place k i x n below above e = grind arith

-- equal entries are at one position
one_place : (xs : List ℕ) → IsStrictlyIncreasing xs → (i j : ℕ) → i < length xs → j < length xs
    → get_or xs i 0 ≡ get_or xs j 0 → i ≡ j
one_place xs up i j h k e =
    same_place i j _ _ (λ l. AllPairs-from_increasing xs up i j 0 l k)
    (λ l. AllPairs-from_increasing xs up j i 0 l h) e

-- the entry at k is n exactly if the search returns k
pub place_found : (xs : List ℕ) (n : ℕ) (r : Result ℕ ℕ) (o : Option ℕ) → IsStrictlyIncreasing xs
    → IsBinarySearchResult (λ y. nat_cmp y n) xs r → o ≡ result_ok r → (k : ℕ)
    → (o ≡ Some k) ↔ (slice_get xs k ≡ Some n)
place_found xs n (Ok i) o up found e k =
    let at = searched xs n (Ok i) found (rises xs up) in (
      λ is.
          let same : i ≡ k = cc in
          slice_get-get_or xs k 0 (omega (arith, at.0))
          ∙ ap Some (ap (λ j. get_or xs j 0) (sym same) ∙ at.1),
      λ there.
          e
          ∙ ap Some
          (one_place xs up i k at.0 (slice_get_within xs k n there)
          (at.1 ∙ sym (get_or_from_slice_get xs k n 0 there))),
    )
place_found xs n (Err i) o up found e k =
    let at = searched xs n (Err i) found (rises xs up) in (
      λ is. absurd cc,
      λ there.
          absurd
          (no_place k i (get_or xs k 0) n (at.1 k) (λ h. at.2 k h (slice_get_within xs k n there))
          (get_or_from_slice_get xs k n 0 there)),
    )
