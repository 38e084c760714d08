-- A number grows with each byte that follows.
use Rattle.std.proofs.Common.{ℕ, zero, suc, ◌+◌, ◌*◌, ◌^◌, ◌≤◌, ◌<◌, ◌≡◌, refl, sym, ap, cond, arith, [], ◌∷◌, Some, None, drop, length}
use Rattle.std.proofs.lemmas.Bool.{lt-ltb, le-ltb}
use Rattle.std.proofs.Math.Nat.{lt_of_not-le}
use Rattle.layouts.specs.Bytes.{Bytes, number_from}
use Rattle.x509_text.specs.Exponent.{small}

pub number_from_grows : (n : ℕ) (bs : Bytes) → n ≤ number_from n bs
number_from_grows n [] = omega arith
number_from_grows n (b ∷ bs) = omega (arith, number_from_grows (n * 256 + b) bs)

-- After the last byte nothing changes.
pub number_at_end : (n i : ℕ) (bs : Bytes) → length bs ≤ i → number_from n (drop i bs) ≡ n
number_at_end n zero [] h = refl
number_at_end n (suc i) [] h = refl
number_at_end n zero (b ∷ bs) h = omega (arith, h)
number_at_end n (suc i) (b ∷ bs) h = number_at_end n i bs (omega (arith, h))

-- One more byte makes it at least 256 times as large.
pub number_of_more : (n i : ℕ) (bs : Bytes) → i < length bs → n * 256 ≤ number_from n (drop i bs)
number_of_more n i [] h = omega (arith, h)
number_of_more n zero (b ∷ bs) h = omega (arith, number_from_grows (n * 256 + b) bs)
number_of_more n (suc i) (b ∷ bs) h = number_of_more n i bs (omega (arith, h))

pub small_here : (n : ℕ) → n < 2 ^ 64 → Some n ≡ small n
small_here n h = sym (ap (λ t. cond t (Some n) None) (lt-ltb n (2 ^ 64) h))

pub not_small : (n m : ℕ) → (n < 2 ^ 64 → ⊥) → n ≤ m → None ≡ small m
not_small n m h k =
    sym (ap (λ t. cond t (Some m) None) (le-ltb m (2 ^ 64) (omega (arith, lt_of_not-le h, k))))
