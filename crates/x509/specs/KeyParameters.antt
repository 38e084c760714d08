-- The parameters of DSA keys, and of elliptic curves that aren't named (RFC 3279, sections 2.3.2
-- and 2.3.5).
use Rattle.std.specs.Prelude.{ℕ, ◌==◌, [], ◌∷◌, Option, Some, None, Result, Ok, Err, if◌then◌else◌}
use Rattle.std.specs.Str.{bytes_eq}
use Rattle.layouts.specs.Bytes.{Bytes}
use Rattle.layouts.specs.Layout.{Layout, done, rest, ◌>>=◌, ◌>>◌}
use Rattle.layouts.specs.Meaning.{Refusal}
use Rattle.layouts.specs.Reading.{reading}
use Rattle.layouts.specs.Items.{value_of}
use Rattle.der.specs.Element.{Element, tagged}
use Rattle.der.specs.Values.{integer}
use Rattle.x509.specs.Certificate.{SubjectPublicKeyInfo}
use Rattle.x509.specs.PublicKey.{EC_PUBLIC_KEY, positive_bits}

-- Dss-Parms: INTEGER p; INTEGER q; INTEGER g. The bit length of p.
unfoldable pub dsa_parameters : Layout ℕ
dsa_parameters = do
  bits ← tagged 2 positive_bits
  tagged 2 integer
  tagged 2 integer
  done bits

-- ECParameters: INTEGER version; FieldID; Curve; OCTET STRING base; INTEGER order; INTEGER cofactor
-- OPTIONAL. The bit length of the order.
unfoldable pub explicit_curve : Layout ℕ
explicit_curve = do
  tagged 2 integer
  tagged 0x30 rest
  tagged 0x30 rest
  tagged 4 rest
  bits ← tagged 2 positive_bits
  rest
  done bits

-- id-dsa: 1.2.840.10040.4.1
abbrev pub DSA : Bytes
DSA = 0x2a ∷ 0x86 ∷ 0x48 ∷ 0xce ∷ 0x38 ∷ 0x04 ∷ 0x01 ∷ []

abbrev pub read_bits : Result ℕ Refusal → Option ℕ
read_bits (Ok bits) = Some bits
read_bits (Err refusal) = None

-- The bits that parameters in a SEQUENCE describe, by the algorithm.
abbrev pub bits_by : Bytes → Bytes → Option ℕ
bits_by algorithm parameters =
    if bytes_eq algorithm DSA then read_bits (value_of (reading dsa_parameters parameters)) else
    if bytes_eq algorithm EC_PUBLIC_KEY then
    read_bits (value_of (reading explicit_curve parameters)) else None

abbrev pub bits_in_parameters : Bytes → Option Element → Option ℕ
bits_in_parameters algorithm None = None
bits_in_parameters algorithm (Some e) =
    if e.tag == 0x30 then bits_by algorithm e.content else None

abbrev pub parameter_bits : SubjectPublicKeyInfo → Option ℕ
parameter_bits k = bits_in_parameters k.algorithm.algorithm k.algorithm.parameters
