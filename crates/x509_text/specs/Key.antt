-- The type and the length of a public key (RFC 3279, section 2.3; RFC 5480, section 2; RFC 8410,
-- section 3).
use Rattle.std.specs.Prelude.{ℕ, ◌||◌, nat_lt, Bool, false, List, [], ◌∷◌, find, codes, Option, Some, None, Result, Ok, if◌then◌else◌}
use Rattle.std.specs.Str.{bytes_eq}
use Rattle.std.specs.Option.{option_map}
use Rattle.layouts.specs.Bytes.{Bytes}
use Rattle.layouts.specs.Meaning.{Refusal}
use Rattle.x509.specs.Certificate.{SubjectPublicKeyInfo}
use Rattle.x509.specs.KeyParameters.{parameter_bits}
use Rattle.x509.specs.PublicKey.{PublicKey, key_of, Rsa, Ec, PKCS_1, EC_PUBLIC_KEY, EDWARDS}
use Rattle.x509_text.specs.CurveSizes.{curve_sizes}
use Rattle.x509_text.specs.Object.{SizedCurve}
use Rattle.x509_text.specs.Parameters.{described_curve}

-- id-dsa: 1.2.840.10040.4.1
abbrev pub DSA : Bytes
DSA = 0x2a ∷ 0x86 ∷ 0x48 ∷ 0xce ∷ 0x38 ∷ 0x04 ∷ 0x01 ∷ []

-- The type by the content of the algorithm's object identifier.
abbrev pub key_type_of : Bytes → Bytes
key_type_of algorithm =
    if bytes_eq algorithm (PKCS_1 1) || bytes_eq algorithm (PKCS_1 10) then codes "rsa" else
    if bytes_eq algorithm DSA then codes "dsa" else
    if bytes_eq algorithm EC_PUBLIC_KEY then codes "ecdsa" else
    if bytes_eq algorithm (EDWARDS 0x70) then codes "ed25519" else
    if bytes_eq algorithm (EDWARDS 0x71) then codes "ed448" else codes "unknown"

-- The size of a curve in a table.
abbrev pub size_in : List SizedCurve → Bytes → Option ℕ
size_in table content = option_map (λ c. c.bits) (find (λ c. bytes_eq c.content content) table)

-- The bit length of an RSA modulus, or of the order of a curve's base point.
abbrev pub key_length_of : Result PublicKey Refusal → Option ℕ
key_length_of (Ok (Rsa bits)) = Some bits
key_length_of (Ok (Ec curve)) = size_in curve_sizes curve
key_length_of _ = None

abbrev pub curve_of : Result PublicKey Refusal → Option Bytes
curve_of (Ok (Ec curve)) = Some curve
curve_of _ = None

-- The named curve, or else the one that the parameters describe (RFC 3279, section 2.3.5).
abbrev pub or_described : Option Bytes → Option Bytes → Option Bytes
or_described (Some curve) described = Some curve
or_described None described = described

abbrev pub key_curve_of : SubjectPublicKeyInfo → Option Bytes
key_curve_of k = or_described (curve_of (key_of k)) (described_curve k.algorithm)

abbrev pub or_named : Option ℕ → Option ℕ → Option ℕ
or_named (Some bits) named = Some bits
or_named None named = named

-- The length that the parameters give, else that of the key or of the named curve.
abbrev pub key_length_by : SubjectPublicKeyInfo → Option ℕ
key_length_by k = or_named (parameter_bits k) (key_length_of (key_of k))

-- Less than 112 bits of security (NIST SP 800-57, part 1, table 2), by algorithm and length.
abbrev pub is_weak_by : Bytes → Option ℕ → Option Bool
is_weak_by algorithm (Some bits) =
    if bytes_eq algorithm EC_PUBLIC_KEY then Some (nat_lt bits 224) else Some (nat_lt bits 2048)
is_weak_by algorithm None =
    if bytes_eq algorithm (EDWARDS 0x70) then Some false else
    if bytes_eq algorithm (EDWARDS 0x71) then Some false else None
