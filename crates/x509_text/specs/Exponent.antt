-- The public exponent of RSA keys (RFC 8017, section A.1.1).
use Rattle.std.specs.Prelude.{ℕ, ◌^◌, ◌||◌, nat_lt, ◌∷◌, decimal, Option, Some, None, Result, Ok, Err, if◌then◌else◌}
use Rattle.std.specs.Str.{bytes_eq}
use Rattle.hex.specs.Hex.{encode_lower}
use Rattle.layouts.specs.Bytes.{Bytes, number_of}
use Rattle.layouts.specs.Layout.{Layout, number, look, test, ◌>>=◌, ◌>>◌}
use Rattle.layouts.specs.Meaning.{Refusal}
use Rattle.layouts.specs.Reading.{reading}
use Rattle.layouts.specs.Items.{value_of}
use Rattle.layouts.specs.declared.result.ErrorKind.TheVariants.{TooLarge, Verify}
use Rattle.layouts.specs.declared.result.ErrorKind.{ErrorKind}
use Rattle.der.specs.Element.{tagged}
use Rattle.der.specs.Values.{integer}
use Rattle.x509.specs.Certificate.{SubjectPublicKeyInfo}
use Rattle.x509.specs.PublicKey.{PKCS_1}
use Rattle.x509_text.specs.Number.{is_negative, without_padding}

-- The bytes of an INTEGER that isn't negative.
unfoldable pub natural : Layout Bytes
natural = do
  look integer
  first ← look (number 1)
  test (nat_lt first 128) Verify
  integer

-- INTEGER modulus; INTEGER publicExponent.
unfoldable pub exponent_content : Layout Bytes
exponent_content = do
  tagged 2 integer
  tagged 2 natural

-- RSAPublicKey: the bytes of its publicExponent.
unfoldable pub rsa_exponent : Layout Bytes
rsa_exponent = tagged 0x30 exponent_content

abbrev pub read_value : Result Bytes Refusal → Option Bytes
read_value (Ok bytes) = Some bytes
read_value (Err refusal) = None

-- The exponent of an RSA key, for any padding or for PSS only.
abbrev pub exponent_of : SubjectPublicKeyInfo → Option Bytes
exponent_of k =
    if bytes_eq k.algorithm.algorithm (PKCS_1 1) || bytes_eq k.algorithm.algorithm (PKCS_1 10) then
    read_value (value_of (reading rsa_exponent k.subject_public_key.bytes)) else None

-- A number below 2^64.
abbrev pub small : ℕ → Option ℕ
small n = if nat_lt n (2 ^ 64) then Some n else None

-- `0x` and a number's bytes in hexadecimal.
abbrev pub hexadecimal_text : Bytes → Bytes
hexadecimal_text bytes = 48 ∷ 120 ∷ encode_lower (without_padding bytes)

-- The number of an INTEGER, from 0 to 2^64 - 1.
abbrev pub natural_value : Bytes → Option ℕ
natural_value bytes = if is_negative bytes then None else small (number_of bytes)

-- Why an INTEGER has no such number: pathLenConstraint is INTEGER (0..MAX) (RFC 5280, section
-- 4.2.1.9).
abbrev pub natural_fault : Bytes → Option ErrorKind
natural_fault bytes =
    if is_negative bytes then Some Verify else
    if nat_lt (number_of bytes) (2 ^ 64) then None else Some TooLarge

abbrev pub number_text : Option ℕ → Bytes → Bytes
number_text (Some n) bytes = decimal n
number_text None bytes = hexadecimal_text bytes

-- In decimal below 2^64, else in hexadecimal.
abbrev pub natural_text : Bytes → Bytes
natural_text bytes = number_text (small (number_of bytes)) bytes
