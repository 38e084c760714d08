-- Lists of numbers as fingerprints use them.
use Rattle.std.specs.Prelude.{◌≡◌, ◌≤◌, length, take, ℕ, ◌+◌, ◌/◌, ◌%◌, ◌==◌, nat_lt, nat_le, Bool, true, false, not, ◌&&◌, if◌then◌else◌, List, [], ◌∷◌, map, filter, decimal}
use Rattle.std.specs.List.{join_with_byte}
use Rattle.layouts.specs.Bytes.{Bytes}

-- A GREASE value, which peers must ignore: two equal bytes that end in the hexadecimal digit a.
-- These are the sixteen from 0x0a0a to 0xfafa (RFC 8701, section 2).
abbrev pub is_grease : ℕ → Bool
is_grease n = n / 256 == n % 256 && n % 16 == 10

abbrev pub without_grease : List ℕ → List ℕ
without_grease ns = filter (λ n. not (is_grease n)) ns

-- n inserted into rising numbers, before the first that isn't below it
unfoldable pub placed : ℕ → List ℕ → List ℕ
placed n [] = n ∷ []
placed n (m ∷ ms) = if nat_le n m then n ∷ m ∷ ms else m ∷ placed n ms

-- The numbers in rising order.
unfoldable pub rising : List ℕ → List ℕ
rising [] = []
rising (n ∷ ns) = placed n (rising ns)

-- The numbers in decimal, separated by `-`.
abbrev pub dashed : List ℕ → Bytes
dashed ns = join_with_byte 45 (map decimal ns)

-- A hexadecimal digit: `0` to `9`, `a` to `f`.
abbrev pub hex_digit : ℕ → ℕ
hex_digit d = if nat_lt d 10 then 48 + d else 87 + d

-- The four hexadecimal digits of a number of 2 bytes.
abbrev pub four_digits : ℕ → Bytes
four_digits n = hex_digit (n / 4096) ∷ hex_digit (n / 256 % 16) ∷ hex_digit (n / 16 % 16)
    ∷ hex_digit (n % 16) ∷ []

-- The numbers as four hexadecimal digits each, separated by `,`.
abbrev pub hex_list : List ℕ → Bytes
hex_list ns = join_with_byte 44 (map four_digits ns)

-- An item of a list, after the separator unless it is the first.
abbrev pub behind_others : ℕ → Bool → Bytes → Bytes
behind_others c true text = text
behind_others c false text = c ∷ text

-- The character before a signature algorithm: `_` before the first, else `,`.
abbrev pub lead_byte : Bool → ℕ
lead_byte true = 95
lead_byte false = 44

abbrev pub has_any : List ℕ → Bool
has_any [] = false
has_any (n ∷ ns) = true

-- The first n numbers in the room are these.
pub record IsFilled (room : List ℕ) (n : ℕ) (ns : List ℕ) : Type 0 where
  pub within : n ≤ length room
  pub are : take n room ≡ ns
