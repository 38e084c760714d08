-- Values of attributes as texts (RFC 4514, sections 2.4 and 3), as OpenSSL prints them.
use Rattle.std.specs.Prelude.{ℕ, ◌/◌, ◌%◌, ◌==◌, ◌&&◌, ◌||◌, not, nat_le, nat_lt, Bool, true, false, [], ◌∷◌, ◌++◌, length, encode_utf8, Option, Some, None, if◌then◌else◌}
use Rattle.std.specs.List.{flat_map}
use Rattle.layouts.specs.Bytes.{Bytes}
use Rattle.layouts.specs.Layout.{Layout, done, number, test, ◌>>=◌, ◌>>◌}
use Rattle.layouts.specs.Items.{items_in, left_in}
use Rattle.layouts.specs.declared.result.ErrorKind.TheVariants.{Verify}
use Rattle.der.specs.Element.{Element}
use Rattle.x509_text.specs.Hexadecimal.{dump_text, hex_digit}

-- `"`, `+`, `,`, `;`, `<`, `>` and `\`
abbrev pub is_special : ℕ → Bool
is_special b = b == 34 || (b == 43 || (b == 44 || (b == 59 || (b == 60 || (b == 62 || b == 92)))))

-- A byte of UTF-8 within a value: special ones after `\`, other printable ASCII as it is, and any
-- other byte as two digits after `\`.
abbrev pub byte_text : ℕ → Bytes
byte_text b =
    if is_special b then 92 ∷ b ∷ [] else
    if nat_le 0x20 b && nat_lt b 0x7f then
    b ∷ [] else 92 ∷ hex_digit (b / 16) ∷ hex_digit (b % 16) ∷ []

-- A space is escaped at both ends, and `#` at the beginning. OpenSSL doesn't escape a `#` that is
-- the whole value.
abbrev pub placed_text : Bool → Bool → ℕ → Bytes
placed_text first last b =
    if b == 32 && (first || last) || b == 35 && (first && not last) then
    92 ∷ b ∷ [] else byte_text b

-- A string in UTF-8, escaped; the Bool is whether its first byte is the first of the value.
abbrev pub escaped : Bool → Bytes → Bytes
escaped first [] = []
escaped first (b ∷ bs) = placed_text first (length bs == 0) b ++ escaped false bs

-- The number of a character, which isn't a surrogate (Unicode, section 3.9).
abbrev pub is_scalar : ℕ → Bool
is_scalar n = nat_lt n 0xd800 || nat_le 0xe000 n && nat_lt n 0x110000

-- A character of a BMPString: its number in 2 bytes (X.680, section 41).
unfoldable pub bmp_character : Layout ℕ
bmp_character = do
  n ← number 2
  test (is_scalar n) Verify
  done n

-- A character of a UniversalString: its number in 4 bytes.
unfoldable pub universal_character : Layout ℕ
universal_character = do
  n ← number 4
  test (is_scalar n) Verify
  done n

-- The characters in UTF-8, if the bytes consist of characters.
abbrev pub utf8_of : Layout ℕ → Bytes → Option Bytes
utf8_of character content =
    if length (left_in character content) == 0 then
    Some (flat_map encode_utf8 (items_in character content)) else None

-- NumericString, PrintableString, TeletexString, IA5String, VisibleString: each byte is the number
-- of a character.
abbrev pub has_bytes : ℕ → Bool
has_bytes t = t == 0x12 || (t == 0x13 || (t == 0x14 || (t == 0x16 || t == 0x1a)))

-- A string that isn't a UTF8String, in UTF-8.
abbrev pub converted_of : Element → Option Bytes
converted_of e =
    if has_bytes e.tag then Some (flat_map encode_utf8 e.content) else
    if e.tag == 0x1c then utf8_of universal_character e.content else
    if e.tag == 0x1e then utf8_of bmp_character e.content else None

abbrev pub string_text : Option Bytes → Element → Bytes
string_text (Some string) e = escaped true string
string_text None e = dump_text e

-- A value: its string, which for a UTF8String is its content; else its element in hexadecimal.
abbrev pub value_text : Element → Bytes
value_text e = if e.tag == 0x0c then escaped true e.content else string_text (converted_of e) e
