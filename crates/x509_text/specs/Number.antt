-- Serial numbers as texts (RFC 5280, section 4.1.2.2), as OpenSSL prints them.
use Rattle.std.specs.Prelude.{◌-◌, ◌%◌, ◌==◌, ◌&&◌, nat_le, Bool, true, false, [], ◌∷◌, reverse, if◌then◌else◌}
use Rattle.hex.specs.Hex.{encode_upper}
use Rattle.layouts.specs.Bytes.{Bytes}

-- The highest bit marks a negative number (X.690, section 8.3.3).
abbrev pub is_negative : Bytes → Bool
is_negative [] = false
is_negative (first ∷ others) = nat_le 128 first

-- 256^k minus the number of these k bytes, little-endian: leading zeros stay, the first other byte
-- is subtracted from 256, and each after it from 255.
abbrev pub negated_from : Bool → Bytes → Bytes
negated_from zeros [] = []
negated_from zeros (b ∷ bs) =
    (if zeros then (256 - b) % 256 else 255 - b) ∷ negated_from (zeros && (b == 0)) bs

abbrev pub negated : Bytes → Bytes
negated number = reverse (negated_from true (reverse number))

-- The number without the leading 0 that keeps it from being negative.
abbrev pub without_padding : Bytes → Bytes
without_padding (first ∷ second ∷ others) = if first == 0 then
    second ∷ others else first ∷ second ∷ others
without_padding number = number

abbrev pub serial_number_text : Bytes → Bytes
serial_number_text number =
    if is_negative number then 45 ∷ encode_upper (without_padding (negated number))
    else encode_upper (without_padding number)
