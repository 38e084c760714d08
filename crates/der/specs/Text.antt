-- The one encoding of a length and of an element (X.690, section 10.1).
use Rattle.std.specs.Prelude.{ℕ, [], ◌∷◌, ◌++◌, length, nat_lt, if◌then◌else◌}
use Rattle.layouts.specs.Bytes.{Bytes, bytes_of}
use Rattle.der.specs.Element.{Element}

-- A length below 128 is one byte; others have as few bytes as they need, after one that counts
-- them. None above 2^24 - 1 is accepted.
abbrev pub length_text : ℕ → Bytes
length_text n =
    if nat_lt n 0x80 then n ∷ [] else
    if nat_lt n 0x100 then 0x81 ∷ bytes_of 1 n else
    if nat_lt n 0x10000 then 0x82 ∷ bytes_of 2 n else 0x83 ∷ bytes_of 3 n

abbrev pub element_text : Element → Bytes
element_text e = (e.tag ∷ length_text (length e.content)) ++ e.content
