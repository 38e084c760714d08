-- The form of a line.
use Rattle.std.specs.Prelude.{◌≡◌, ℕ, ◌%◌, List, ◌∷◌, length, ◌==◌, if◌then◌else◌, Option, Some, None, option_map}
use Rattle.std.specs.List.{AllPass}
use Rattle.std.specs.Result.{result_ok}
use Rattle.hex.specs.Hex.{decode_of, is_hex_digit}
use Rattle.tlsview.specs.Direction.{sign_of, direction_of}
use Rattle.tlsview.specs.declared.direction.LineDirection.{LineDirection}

-- the direction and the bytes of a line
abbrev pub Line : Type 0
Line = LineDirection × List ℕ

-- the bytes of the digits, in this direction
abbrev pub with_direction : Option LineDirection → List ℕ → Option Line
with_direction None digits = None
with_direction (Some direction) digits =
    option_map (λ bytes. (direction, bytes)) (result_ok (decode_of digits))

-- a sign, a space, and digits that `hex` decodes
abbrev pub line_of : List ℕ → Option Line
line_of (sign ∷ space ∷ digits) = if space == 32 then
    with_direction (direction_of sign) digits else None
line_of _ = None

-- a sign, a space, and an even number of digits
pub record IsStatement (line : List ℕ) : Type 0 where
  pub direction : LineDirection
  pub digits : List ℕ
  pub spelled : line ≡ sign_of direction ∷ 32 ∷ digits
  pub even : length digits % 2 ≡ 0
  pub hexadecimal : AllPass is_hex_digit digits
