-- The lower 48 bits of a number.
use Rattle.std.proofs.Common.{◌≡◌, ℕ, ◌%◌, bit_and}
use Rattle.std.proofs.lemmas.Nat.{and_mask}

pub low_bits : (n : ℕ) → bit_and n 281474976710655 ≡ n % 281474976710656
low_bits n = and_mask n 48
