-- Sums of 16-bit words (RFC 1071).
use Rattle.std.specs.Prelude.{ℕ, ◌+◌, ◌*◌, ◌/◌, ◌%◌, ◌^◌, ◌==◌, Bool, [], ◌∷◌}
use Rattle.layouts.specs.Bytes.{Bytes}

-- The sum of the 16-bit words of bytes. A last odd byte is the upper half of a word.
unfoldable pub words : Bytes → ℕ
words [] = 0
words (a ∷ []) = a * 256
words (a ∷ b ∷ bs) = a * 256 + b + words bs

-- The sum of the two words of a 32-bit number.
abbrev pub words4 : ℕ → ℕ
words4 n = n / 2 ^ 16 + n % 2 ^ 16

-- The sum of the four words of a 64-bit number.
abbrev pub words8 : ℕ → ℕ
words8 n = words4 (n / 2 ^ 32) + words4 (n % 2 ^ 32)

-- In ones' complement, numbers that are equal modulo 2^16 - 1 are the same. The words' sum, with a
-- correct checksum among them, is 0. So is that of all zeros, but an IPv4 header has its version,
-- and a pseudo-header its protocol.
abbrev pub is_right : ℕ → Bool
is_right sum = sum % 65535 == 0
