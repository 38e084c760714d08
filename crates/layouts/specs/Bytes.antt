-- Bytes, and the numbers that they encode (RFC 8446, section 3.3: all values are stored
-- big-endian).
use Rattle.std.specs.Prelude.{ℕ, zero, suc, ◌+◌, ◌*◌, ◌/◌, ◌%◌, ◌<◌, List, [], ◌∷◌, ◌++◌, slice_index}

-- A list of numbers.
abbrev pub Bytes : Type 0
Bytes = List ℕ

-- Each number is below 256, as each element of a `&[u8]` is.
abbrev pub AreBytes : Bytes → Type 0
AreBytes b = (i : ℕ) → slice_index b i < 256

-- The k bytes of the number x, most significant first: the bytes of x / 256, then x % 256.
abbrev pub bytes_of : ℕ → ℕ → Bytes
bytes_of zero x = []
bytes_of (suc k) x = bytes_of k (x / 256) ++ x % 256 ∷ []

-- The number whose bytes are those of n, followed by these.
abbrev pub number_from : ℕ → Bytes → ℕ
number_from n [] = n
number_from n (b ∷ bs) = number_from (n * 256 + b) bs

-- The number with these bytes, big-endian.
abbrev pub number_of : Bytes → ℕ
number_of bs = number_from 0 bs
