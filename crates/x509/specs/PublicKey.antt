-- Public keys, by their algorithm (RFC 3279, section 2.3; RFC 4055, section 1.2; RFC 5480, section
-- 2; RFC 8410, section 3).
use Rattle.std.specs.Prelude.{ℕ, ◌+◌, ◌-◌, ◌*◌, ◌^◌, ◌≤◌, ◌<◌, ◌==◌, ◌||◌, nat_le, nat_lt, [], ◌∷◌, Option, Some, None, Result, Ok, Err, if◌then◌else◌}
use Rattle.std.specs.Str.{bytes_eq}
use Rattle.layouts.specs.Bytes.{Bytes}
use Rattle.layouts.specs.Layout.{Layout, done, number, list, left, look, rest, test, mapped, ◌>>=◌, ◌>>◌}
use Rattle.layouts.specs.Meaning.{Refusal, Broken}
use Rattle.layouts.specs.Reading.{reading}
use Rattle.layouts.specs.Items.{value_of}
use Rattle.layouts.specs.declared.result.ErrorKind.TheVariants.{TooLarge, Tag, Verify}
use Rattle.der.specs.Element.{Element, tagged}
use Rattle.der.specs.ObjectIdentifier.{object_identifier_content}
use Rattle.der.specs.Values.{integer}
use Rattle.x509.specs.Certificate.{SubjectPublicKeyInfo}
use Rattle.x509.specs.declared.public_key.PublicKey.{PublicKey as LentPublicKey}
use Rattle.x509.specs.declared.public_key.PublicKey.TheVariants as lent

-- The bit length of a number below 256 that isn't 0.
abbrev pub byte_bits : ℕ → ℕ
byte_bits n =
    if nat_lt n 2 then 1 else
    if nat_lt n 4 then 2 else
    if nat_lt n 8 then 3 else
    if nat_lt n 16 then 4 else
    if nat_lt n 32 then 5 else
    if nat_lt n 64 then 6 else
    if nat_lt n 128 then 7 else 8

unfoldable pub zero_byte : Layout Unit
zero_byte = do
  n ← number 1
  test (n == 0) Tag

-- The bit length of a number whose first byte isn't 0.
unfoldable pub behind_bits : ℕ → Layout ℕ
behind_bits first = do
  n ← left
  test (nat_le n 65535) TooLarge
  rest
  done (n * 8 + byte_bits first)

unfoldable pub significant_bits : Layout ℕ
significant_bits = number 1 >>= behind_bits

-- The bit length of a big-endian number above 0; leading zeros are allowed.
unfoldable pub bit_length : Layout ℕ
bit_length = list zero_byte >> significant_bits

-- The number has k bits: it is at least 2^(k-1), and below 2^k.
abbrev pub HasBits : ℕ → ℕ → Type 0
HasBits k n = (2 ^ (k - 1) ≤ n) × (n < 2 ^ k)

-- The bit length of an INTEGER above 0. Its highest bit is 0, or it would be negative.
unfoldable pub positive_bits : Layout ℕ
positive_bits = do
  look integer
  first ← look (number 1)
  test (nat_lt first 128) Verify
  bit_length

-- RSAPublicKey: INTEGER modulus; INTEGER publicExponent (RFC 8017, section A.1.1). It returns the
-- bit length of the modulus.
unfoldable pub rsa_content : Layout ℕ
rsa_content = do
  bits ← tagged 2 positive_bits
  tagged 2 integer
  done bits

unfoldable pub rsa_public_key : Layout ℕ
rsa_public_key = tagged 0x30 rsa_content

pub data PublicKey : Type 0 where
  -- the bit length of the modulus
  Rsa : ℕ → PublicKey
  -- the curve
  Ec : Bytes → PublicKey
  Ed25519 : PublicKey
  Ed448 : PublicKey
  -- the algorithm
  Other : Bytes → PublicKey

abbrev pub view_public_key : LentPublicKey → PublicKey
view_public_key (lent.Rsa n) = Rsa n
view_public_key (lent.Ec c) = Ec c.content.now
view_public_key lent.Ed25519 = Ed25519
view_public_key lent.Ed448 = Ed448
view_public_key (lent.Other a) = Other a.content.now

-- rsaEncryption: 1.2.840.113549.1.1.1, and id-RSASSA-PSS: 1.2.840.113549.1.1.10
abbrev pub PKCS_1 : ℕ → Bytes
PKCS_1 n = 0x2a ∷ 0x86 ∷ 0x48 ∷ 0x86 ∷ 0xf7 ∷ 0x0d ∷ 0x01 ∷ 0x01 ∷ n ∷ []

-- id-ecPublicKey: 1.2.840.10045.2.1
abbrev pub EC_PUBLIC_KEY : Bytes
EC_PUBLIC_KEY = 0x2a ∷ 0x86 ∷ 0x48 ∷ 0xce ∷ 0x3d ∷ 0x02 ∷ 0x01 ∷ []

-- id-Ed25519: 1.3.101.112, and id-Ed448: 1.3.101.113
abbrev pub EDWARDS : ℕ → Bytes
EDWARDS n = 0x2b ∷ 0x65 ∷ n ∷ []

-- The parameters of an elliptic curve: OBJECT IDENTIFIER namedCurve (RFC 5480, section 2.1.1).
abbrev pub named_curve : Option Element → Result PublicKey Refusal
named_curve None = Err (Broken Tag)
named_curve (Some e) =
    if e.tag == 6 then value_of (reading (mapped Ec object_identifier_content) e.content) else
    Err (Broken Tag)

-- The key, by its algorithm.
abbrev pub key_of : SubjectPublicKeyInfo → Result PublicKey Refusal
key_of k =
    let oid : Bytes = k.algorithm.algorithm in
    if bytes_eq oid (PKCS_1 1) || bytes_eq oid (PKCS_1 10) then
    value_of (reading (mapped Rsa rsa_public_key) k.subject_public_key.bytes) else
    if bytes_eq oid EC_PUBLIC_KEY then named_curve k.algorithm.parameters else
    if bytes_eq oid (EDWARDS 0x70) then Ok Ed25519 else
    if bytes_eq oid (EDWARDS 0x71) then Ok Ed448 else Ok (Other oid)
