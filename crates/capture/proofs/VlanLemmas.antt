-- Lists that are cut to their first 16 elements.
use Rattle.std.proofs.Common.{◌≡◌, ℕ, zero, suc, ◌<◌, ◌≤◌, List, [], ◌∷◌, ◌++◌, Ok, Err, length, take, refl, sym, ap, ◌∙◌, arith, append-nil, append_assoc, length-append, length-take, take_all}
use Rattle.std.proofs.lemmas.List.{take-append-le}
use Rattle.layouts.specs.Bytes.{Bytes}
use Rattle.layouts.specs.Items.{items_in}
use Rattle.layouts.specs.Layout.{Layout}
use Rattle.layouts.specs.Meaning.{Refusal}
use Rattle.layouts.specs.Reading.{reading}
use Rattle.layouts.proofs.ItemsLemmas.{items_first, items_none, items_still}

pub again : (n : ℕ) (xs ys : List ℕ) → take n (take n xs ++ ys) ≡ take n (xs ++ ys)
again zero xs ys = refl
again (suc n) [] ys = refl
again (suc n) (x ∷ xs) ys = ap (λ l. x ∷ l) (again n xs ys)

-- One more element fits behind fewer than 16.
pub fits : (xs new : List ℕ) (n v : ℕ) → n < 16 → new ≡ take n xs ++ v ∷ []
    → new ≡ take 16 (take n xs ++ v ∷ [])
fits xs new n v few is = is ∙ sym (take_all 16 (take n xs ++ v ∷ [])
    (omega (arith, few, length-append (take n xs) (v ∷ []), length-take n xs)))

-- Nothing fits behind 16.
pub is_full : (xs ys : List ℕ) (n : ℕ) → length xs ≡ 16 → 16 ≤ n
    → take n xs ≡ take 16 (take n xs ++ ys)
is_full xs ys n all many = let whole = take_all n xs (omega (arith, all, many)) in
    whole ∙ sym (take_all 16 xs (omega (arith, all)))
    ∙ sym (take-append-le 16 xs ys (omega (arith, all)))
    ∙ ap (λ l. take 16 (l ++ ys)) (sym whole)

-- Appending nothing changes nothing.
pub none_behind : (xs ys : List ℕ) (n : ℕ) → length xs ≡ 16 → ys ≡ []
    → take n xs ≡ take 16 (take n xs ++ ys)
none_behind xs ys n all none =
    sym (ap (λ l. take 16 (take n xs ++ l)) none ∙ ap (take 16) (append-nil (take n xs))
    ∙ take_all 16 (take n xs) (omega (arith, all, length-take n xs)))

-- Appending twice is appending both.
pub joined : (xs ys zs mid new : List ℕ) → mid ≡ take 16 (xs ++ ys) → new ≡ take 16 (mid ++ zs)
    → new ≡ take 16 (xs ++ (ys ++ zs))
joined xs ys zs mid new h g = g ∙ ap (λ l. take 16 (l ++ zs)) h ∙ again 16 (xs ++ ys) zs
    ∙ ap (take 16) (append_assoc xs ys zs)

module _ (l : Layout ℕ) (b : Bytes) where
  -- An item is parsed, and the others behind it.
  pub first : (r : Bytes) (v : ℕ) (xs mid new : List ℕ) → reading l b ≡ Ok (v, r)
      → length r < length b
      → mid ≡ take 16 (xs ++ v ∷ []) → new ≡ take 16 (mid ++ items_in l r)
      → new ≡ take 16 (xs ++ items_in l b)
  first r v xs mid new e short h g = joined xs (v ∷ []) (items_in l r) mid new h g
      ∙ ap (λ ys. take 16 (xs ++ ys)) (sym (items_first l b v r e short))

  -- No item is parsed, or the parsed one is empty.
  pub ended : (xs : List ℕ) (n : ℕ) (e : Refusal) → length xs ≡ 16 → reading l b ≡ Err e
      → take n xs ≡ take 16 (take n xs ++ items_in l b)
  ended xs n e all f = none_behind xs (items_in l b) n all (items_none l b e f)

  pub still : (xs : List ℕ) (n v : ℕ) (r : Bytes) → length xs ≡ 16 → reading l b ≡ Ok (v, r)
      → length b ≤ length r
      → take n xs ≡ take 16 (take n xs ++ items_in l b)
  still xs n v r all f long = none_behind xs (items_in l b) n all (items_still l b v r f long)
