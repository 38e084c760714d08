-- The contents of BOOLEAN, INTEGER and BIT STRING.
use Rattle.std.specs.Prelude.{ℕ, ◌+◌, ◌-◌, ◌*◌, ◌/◌, ◌%◌, ◌^◌, ◌==◌, ◌&&◌, ◌||◌, not, nat_le, nat_lt, ◌∷◌, length, slice_index, Option, Some, None, Bool, true, false}
use Rattle.layouts.specs.Bytes.{Bytes}
use Rattle.layouts.specs.Layout.{Layout, done, number, left, rest, test, mapped, ◌>>=◌, ◌>>◌}
use Rattle.layouts.specs.declared.result.ErrorKind.TheVariants.{LengthValue, Verify}
use Rattle.der.specs.Element.{optional}
use Rattle.der.specs.declared.value.BitString.{BitString as LentBitString}

-- BOOLEAN: one byte, 0 or 255 (X.690, sections 8.2 and 11.1).
unfoldable pub boolean : Layout Bool
boolean = do
  n ← number 1
  test ((n == 0) || (n == 255)) Verify
  done (n == 255)

abbrev pub or_false : Option Bool → Bool
or_false (Some b) = b
or_false None = false

-- BOOLEAN in BER: one byte, 0 for FALSE and any other for TRUE (X.690, section 8.2.2).
unfoldable pub ber_boolean : Layout Bool
ber_boolean = mapped (λ n. not (n == 0)) (number 1)

-- BOOLEAN DEFAULT FALSE. An explicit FALSE and BER's TRUE are accepted; DER forbids them (X.690,
-- sections 11.1 and 11.5), but certificates have them.
unfoldable pub default_false : Layout Bool
default_false = mapped or_false (optional 1 ber_boolean)

-- No fewer bytes encode it: the first nine bits aren't all the same (X.690, section 8.3.2).
abbrev pub is_shortest : Bytes → Bool
is_shortest (a ∷ b ∷ bs) = not (((a == 0) && nat_lt b 128) || ((a == 255) && nat_le 128 b))
is_shortest bs = true

-- INTEGER: its bytes in two's complement, at least one.
unfoldable pub integer : Layout Bytes
integer = do
  n ← left
  test (nat_le 1 n) LengthValue
  bytes ← rest
  test (is_shortest bytes) Verify
  done bytes

-- BIT STRING: the count of unused bits in the last byte, and its bytes (X.690, section 8.6).
pub record BitString : Type 0 where
  pub unused : ℕ
  pub bytes : Bytes

abbrev pub view_bit_string : LentBitString → BitString
view_bit_string s = record { unused = s.unused; bytes = s.bytes.now }

-- The unused bits exist and are 0 (X.690, sections 8.6.2.3 and 11.2.1).
abbrev pub is_padding : ℕ → Bytes → Bool
is_padding unused bytes =
    ((unused == 0) || nat_le 1 (length bytes))
    && (slice_index bytes (length bytes - 1) % 2 ^ unused == 0)

unfoldable pub bit_string : Layout BitString
bit_string = do
  unused ← number 1
  test (nat_le unused 7) Verify
  bytes ← rest
  test (is_padding unused bytes) Verify
  done (record { unused = unused; bytes = bytes })

-- Bit k, where bit 0 is the highest of the first byte; past the last bit it is 0.
abbrev pub bit_of : BitString → ℕ → Bool
bit_of s k =
    nat_lt (k + s.unused) (length s.bytes * 8)
    && ((slice_index s.bytes (k / 8) / 2 ^ (7 - k % 8)) % 2 == 1)
