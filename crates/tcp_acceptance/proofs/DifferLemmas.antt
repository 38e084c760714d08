-- Bytes that differ, place by place.
use Rattle.std.proofs.Common.{◌≡◌, ℕ, zero, suc, ◌≤◌, false, List, [], ◌∷◌, length, drop, min, refl, arith}
use Rattle.tcp_acceptance.specs.Doubtful.{differ}

without_others : (xs : List ℕ) → differ xs [] ≡ false
without_others [] = refl
without_others (x ∷ xs) = refl

-- Behind the end of either no byte differs.
pub differ_done : (xs ys : List ℕ) (n : ℕ) → min (length xs) (length ys) ≤ n
    → differ (drop n xs) (drop n ys) ≡ false
differ_done [] ys zero h = refl
differ_done [] ys (suc n) h = refl
differ_done (x ∷ xs) [] zero h = refl
differ_done (x ∷ xs) [] (suc n) h = without_others (drop n xs)
differ_done (x ∷ xs) (y ∷ ys) zero h = absurd (omega (arith, h))
differ_done (x ∷ xs) (y ∷ ys) (suc n) h = differ_done xs ys n (omega (arith, h))
