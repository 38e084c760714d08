-- Tables with distinct rows.
use Rattle.std.proofs.Common.{
  ◌≡◌,
  ℕ,
  zero,
  suc,
  List,
  [],
  ◌∷◌,
  Some,
  Bool,
  true,
  false,
  not,
  ◌&&◌,
  ◌||◌,
  slice_get,
  inl,
  inr,
  refl,
  sym,
  ap,
  subst,
}
use Rattle.tls_words.proofs.PatternLemmas.{both_and, or_either}

not_both : (t : Bool) → not t ≡ true → t ≡ true → ⊥
not_both true e f = cc
not_both false e f = cc

module _ {R : Type 0} (is_like : R → R → Bool) where
  abbrev has_like : R → List R → Bool
  has_like r [] = false
  has_like r (s ∷ rows) = is_like r s || has_like r rows

  -- Tests each row against those after it.
  abbrev pub all_unlike : List R → Bool
  all_unlike [] = true
  all_unlike (r ∷ rows) = not (has_like r rows) && all_unlike rows

  found_like : (r s : R) (rows : List R) (j : ℕ) → slice_get rows j ≡ Some s → is_like r s ≡ true
      → has_like r rows ≡ true
  found_like r s [] j there like = absurd cc
  found_like r s (x ∷ rows) zero there like = let same : x ≡ s =
      cc in or_either (is_like r x) (has_like r rows)
      (inl (subst (λ y. is_like r y ≡ true) (sym same) like))
  found_like r s (x ∷ rows) (suc j) there like =
      or_either (is_like r x) (has_like r rows) (inr (found_like r s rows j there like))

  pub one_place : (rows : List R) → all_unlike rows ≡ true → (i j : ℕ) (r s : R)
      → slice_get rows i ≡ Some r → slice_get rows j ≡ Some s → is_like r s ≡ true
      → is_like s r ≡ true → i ≡ j
  one_place [] t i j r s at_i at_j e f = absurd cc
  one_place (x ∷ rows) t zero zero r s at_i at_j e f = refl
  one_place (x ∷ rows) t zero (suc j) r s at_i at_j e f =
      let same : x ≡ r = cc in
      let like : has_like x rows ≡ true =
      found_like x s rows j at_j (subst (λ y. is_like y s ≡ true) (sym same) e) in
      absurd (not_both (has_like x rows) (both_and _ _ t).0 like)
  one_place (x ∷ rows) t (suc i) zero r s at_i at_j e f =
      let same : x ≡ s = cc in
      let like : has_like x rows ≡ true =
      found_like x r rows i at_i (subst (λ y. is_like y r ≡ true) (sym same) f) in
      absurd (not_both (has_like x rows) (both_and _ _ t).0 like)
  one_place (x ∷ rows) t (suc i) (suc j) r s at_i at_j e f =
      ap suc (one_place rows (both_and _ _ t).1 i j r s at_i at_j e f)
