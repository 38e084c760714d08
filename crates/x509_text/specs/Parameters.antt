-- Elliptic curves by their parameters (RFC 3279, section 2.3.5).
use Rattle.std.specs.Prelude.{◌==◌, ◌&&◌, ◌||◌, Bool, List, [], ◌∷◌, find, Option, Some, None, Result, Ok, Err, if◌then◌else◌}
use Rattle.std.specs.Option.{option_map}
use Rattle.std.specs.Str.{bytes_eq}
use Rattle.layouts.specs.Bytes.{Bytes}
use Rattle.layouts.specs.Layout.{Layout, done, rest, test, ◌>>=◌, ◌>>◌}
use Rattle.layouts.specs.Meaning.{Refusal}
use Rattle.layouts.specs.Reading.{reading}
use Rattle.layouts.specs.Items.{value_of}
use Rattle.layouts.specs.declared.result.ErrorKind.TheVariants.{Switch}
use Rattle.der.specs.Element.{Element, tagged}
use Rattle.der.specs.ObjectIdentifier.{object_identifier}
use Rattle.der.specs.Values.{integer}
use Rattle.x509.specs.Certificate.{AlgorithmIdentifier}
use Rattle.x509.specs.PublicKey.{EC_PUBLIC_KEY}
use Rattle.x509_text.specs.KnownCurves.{KnownCurve, known_curves}
use Rattle.x509_text.specs.declared.parameters.Coefficients.{Coefficients as LentCoefficients}
use Rattle.x509_text.specs.declared.parameters.CurveParameters.{CurveParameters as LentParameters}

-- prime-field: 1.2.840.10045.1.1
abbrev pub PRIME_FIELD : Bytes
PRIME_FIELD = 0x2a ∷ 0x86 ∷ 0x48 ∷ 0xce ∷ 0x3d ∷ 0x01 ∷ 0x01 ∷ []

-- FieldID of a prime field: OBJECT IDENTIFIER fieldType; INTEGER prime-p.
unfoldable pub prime_field : Layout Bytes
prime_field = do
  kind ← object_identifier
  test (bytes_eq kind PRIME_FIELD) Switch
  tagged 2 integer

-- Curve: OCTET STRING a; OCTET STRING b; BIT STRING seed OPTIONAL.
pub record Coefficients : Type 0 where
  pub a : Bytes
  pub b : Bytes

abbrev pub view_coefficients : LentCoefficients → Coefficients
view_coefficients c = record { a = c.a.now; b = c.b.now }

unfoldable pub coefficients : Layout Coefficients
coefficients = do
  a ← tagged 4 rest
  b ← tagged 4 rest
  rest
  done (record { a = a; b = b })

-- ECParameters: INTEGER version; FieldID; Curve; OCTET STRING base; INTEGER order; INTEGER cofactor
-- OPTIONAL.
pub record CurveParameters : Type 0 where
  pub prime : Bytes
  pub curve : Coefficients
  pub base : Bytes
  pub order : Bytes

abbrev pub view_parameters : LentParameters → CurveParameters
view_parameters p = record {
  prime = p.prime.now;
  curve = view_coefficients p.curve;
  base = p.base.now;
  order = p.order.now;
}

unfoldable pub curve_parameters : Layout CurveParameters
curve_parameters = do
  tagged 2 integer
  prime ← tagged 0x30 prime_field
  curve ← tagged 0x30 coefficients
  base ← tagged 4 rest
  order ← tagged 2 integer
  rest
  done (record { prime = prime; curve = curve; base = base; order = order })

-- These are the parameters of a curve, whatever the form of its base point.
abbrev pub has_parameters : CurveParameters → KnownCurve → Bool
has_parameters p c =
    bytes_eq c.prime p.prime && (bytes_eq c.a p.curve.a && (bytes_eq c.b p.curve.b
    && (bytes_eq c.order p.order && (bytes_eq c.base p.base || bytes_eq c.compressed p.base))))

-- The curve in a table that has these parameters: the content of its object identifier.
abbrev pub curve_in : List KnownCurve → CurveParameters → Option Bytes
curve_in table p = option_map (λ c. c.content) (find (has_parameters p) table)

abbrev pub known_by : Result CurveParameters Refusal → Option Bytes
known_by (Ok p) = curve_in known_curves p
known_by (Err refusal) = None

abbrev pub described_by : Option Element → Option Bytes
described_by None = None
described_by (Some e) =
    if e.tag == 0x30 then known_by (value_of (reading curve_parameters e.content)) else None

-- The curve that the parameters of a key describe, if it has a name.
abbrev pub described_curve : AlgorithmIdentifier → Option Bytes
described_curve a = if bytes_eq a.algorithm EC_PUBLIC_KEY then described_by a.parameters else None
