-- Bytes that a peer sent, as printable ASCII: as Rust's `escape_ascii` writes them.
use Rattle.std.specs.Prelude.{
  ℕ,
  nat_lt,
  nat_le,
  ◌&&◌,
  cond,
  List,
  [],
  ◌∷◌,
  flat_map,
}
use Rattle.std.specs.Char.Escape.{short_escape}
use Rattle.text_forms.specs.Hexadecimal.{byte_code}

-- A tab, a line break, a quote and `\` are a `\` and a letter, other bytes that aren't printable
-- ASCII their number in hexadecimal.
abbrev pub escaped_byte : ℕ → List ℕ
escaped_byte b =
    cond (nat_lt 0 (short_escape b)) (92 ∷ short_escape b ∷ [])
    (cond (nat_le 32 b && nat_le b 126) (b ∷ []) (byte_code b))

abbrev pub escaped_text : List ℕ → List ℕ
escaped_text = flat_map escaped_byte
