-- The bytes at a place.
use Rattle.std.proofs.Common.{◌≡◌, ℕ, length, take, drop, min, ◌∙◌, ap}
use Rattle.std.proofs.lemmas.List.{take_min, drop_min}
use Rattle.layouts.specs.Bytes.{Bytes}

-- A block that is cut at the end of the bytes.
pub cut_there : (b x : Bytes) (o n m k : ℕ) → m ≡ min o (length b) → k ≡ min n (length (drop m b))
    → x ≡ take k (drop m b) → x ≡ take n (drop o b)
cut_there b x o n m k em ek ex =
    ex ∙ ap (λ i. take i (drop m b)) ek ∙ take_min n (drop m b)
    ∙ ap (take n) (ap (λ i. drop i b) em ∙ drop_min o b)
