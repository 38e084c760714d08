-- Values in Zeek's logs (docs.zeek.org, "Zeek Log Formats and Inspection").
use Rattle.std.specs.Prelude.{
  ℕ,
  ◌==◌,
  ◌&&◌,
  ◌||◌,
  nat_le,
  not,
  Bool,
  true,
  false,
  cond,
  List,
  [],
  ◌∷◌,
  ◌++◌,
  flat_map,
  codes,
}
use Rattle.std.specs.Str.{bytes_eq}
use Rattle.text_forms.specs.Hexadecimal.{byte_code}

-- Bytes that aren't printable ASCII are written in hexadecimal, and in lists the separator `,`.
abbrev pub is_unprintable : Bool → ℕ → Bool
is_unprintable listed b = not (nat_le 32 b && nat_le b 126) || (listed && (b == 44))

-- A byte of a text, or of a text in a list. `\` is doubled.
abbrev pub byte_text : Bool → ℕ → List ℕ
byte_text listed b =
    cond (b == 92) (92 ∷ 92 ∷ []) (cond (is_unprintable listed b) (byte_code b) (b ∷ []))

abbrev pub begins_with_hash : List ℕ → Bool
begins_with_hash [] = false
begins_with_hash (b ∷ bs) = b == 35

-- The text could be taken for a line of Zeek's own, a missing value, or an empty one.
abbrev pub is_ambiguous : Bool → List ℕ → Bool
is_ambiguous at_start s =
    (at_start && begins_with_hash s) || bytes_eq s (codes "-") || bytes_eq s (codes "(empty)")

-- The first byte is escaped where the text could be taken for something else.
abbrev pub first_text : Bool → Bool → ℕ → List ℕ
first_text true listed b = byte_code b
first_text false listed b = byte_text listed b

-- A text at the start of a line or behind other values, alone or in a list.
abbrev pub value_text : Bool → Bool → List ℕ → List ℕ
value_text at_start listed [] = codes "(empty)"
value_text at_start listed (b ∷ bs) =
    first_text (is_ambiguous at_start (b ∷ bs)) listed b ++ flat_map (byte_text listed) bs
