-- At how many positions bytes differ.
use Rattle.std.proofs.Common.{◌≡◌, ℕ, ◌≤◌, min, Bool, true, false, ltb, [], ◌∷◌, length, drop, refl, ap, ◌∙◌, arith, ltb-true, ltb-false}
use Rattle.std.proofs.lemmas.List.{drop_all}
use Rattle.segments.specs.Cells.{Bytes}
use Rattle.ip_fragments.specs.Runs.{unlike}

-- Past the end of the shorter list nothing differs.
none_unlike : (xs : Bytes) → unlike xs [] ≡ 0
none_unlike [] = refl
none_unlike (x ∷ xs) = refl

pub unlike_rest : (xs ys : Bytes) (i : ℕ) → min (length xs) (length ys) ≤ i
    → unlike (drop i xs) (drop i ys) ≡ 0
unlike_rest xs ys i h = go (ltb i (length xs)) refl
  where
    go : (t : Bool) → ltb i (length xs) ≡ t → unlike (drop i xs) (drop i ys) ≡ 0
    go true e = let more = ltb-true i (length xs) e in
        ap (unlike (drop i xs)) (drop_all i ys (omega (arith, h, more))) ∙ none_unlike (drop i xs)
    go false e = ap (λ l. unlike l (drop i ys)) (drop_all i xs (ltb-false i (length xs) e))
