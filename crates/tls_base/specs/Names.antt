-- Names of numbers, and how numbers are shown.
use Rattle.std.specs.Prelude.{ℕ, List, ◌++◌, map, Option, Some, None, ◌==◌, find, codes, false}
use Rattle.std.specs.Borrow.{Bor}
use Rattle.std.specs.Option.{option_map}
use Rattle.std.specs.Fmt.{decimal, digits}

-- A text, as its bytes.
abbrev pub Text : Type 0
Text = List ℕ

-- What a table has for a number, in its first entry with that number.
abbrev pub look_up : {A : Type 0} → List (ℕ × A) → ℕ → Option A
look_up table n = option_map (λ x. x.1) (find (λ x. x.0 == n) table)

-- A table of borrowed names, as a table of the names themselves.
abbrev pub names_of : List (ℕ × Bor Text) → List (ℕ × Text)
names_of table = map (λ x. (x.0, x.1.now)) table

-- A number in lower-case hexadecimal, without leading zeros.
abbrev pub hexadecimal : ℕ → Text
hexadecimal n = digits 16 false n

-- Shows a number of a type: its name if it has one, else the type with the number in decimal and
-- hexadecimal.
unfoldable pub shown : Text → ℕ → Option Text → Text
shown type n (Some t) = t
shown type n None = type ++ codes "(" ++ decimal n ++ codes " / 0x" ++ hexadecimal n ++ codes ")"

-- Shows a number of a type by the table of the type's names.
unfoldable pub name : Text → List (ℕ × Text) → ℕ → Text
name type table n = shown type n (look_up table n)
