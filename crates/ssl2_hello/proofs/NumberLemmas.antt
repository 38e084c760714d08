-- The number of three bytes.
use Rattle.std.proofs.Common.{◌≡◌, [], ◌∷◌, length, get_or, arith}
use Rattle.std.specs.Int.{w32, from_be_bytes}
use Rattle.layouts.specs.Bytes.{Bytes, number_of}

pub number_of_3 : (b : Bytes) → length b ≡ 3
    → number_of b ≡ from_be_bytes w32 (0 ∷ get_or b 0 0 ∷ get_or b 1 0 ∷ get_or b 2 0 ∷ [])
number_of_3 (a ∷ b ∷ c ∷ []) l = omega arith
number_of_3 b l = absurd (omega arith)
