-- Bytes in hexadecimal.
use Rattle.std.specs.Prelude.{ℕ, ◌+◌, nat_lt, ◌∷◌, if◌then◌else◌}
use Rattle.hex.specs.Hex.{encode_upper}
use Rattle.der.specs.Element.{Element}
use Rattle.der.specs.Text.{element_text}
use Rattle.layouts.specs.Bytes.{Bytes}

-- `0` to `9`, `A` to `F`
abbrev pub hex_digit : ℕ → ℕ
hex_digit d = if nat_lt d 10 then 48 + d else 55 + d

-- `#` and the bytes of an element, with its tag and its length (RFC 4514, section 2.4).
abbrev pub dump_text : Element → Bytes
dump_text e = 35 ∷ encode_upper (element_text e)
