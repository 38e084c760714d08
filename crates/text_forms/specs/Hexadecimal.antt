-- Numbers in hexadecimal, with lower-case digits.
use Rattle.std.specs.Prelude.{ℕ, ◌/◌, ◌%◌, List, [], ◌∷◌, ◌++◌, codes}
use Rattle.hex.specs.Hex.{encode_lower}

-- A byte as `\x` and two digits.
abbrev pub byte_code : ℕ → List ℕ
byte_code b = 92 ∷ 120 ∷ encode_lower (b ∷ [])

-- A number of 2 bytes as `0x` and four digits.
abbrev pub number_text : ℕ → List ℕ
number_text n = codes "0x" ++ encode_lower (n / 256 ∷ n % 256 ∷ [])
