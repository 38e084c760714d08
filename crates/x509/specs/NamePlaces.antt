-- Where a certificate has its names (RFC 5280, sections 4.1, 4.1.2.4 and 4.1.2.6).
use Rattle.std.specs.Prelude.{ℕ, ◌-◌, ◌==◌}
use Rattle.layouts.specs.Bytes.{Bytes}
use Rattle.layouts.specs.Layout.{Layout, done, left, number, rest, test, ◌>>=◌, ◌>>◌}
use Rattle.layouts.specs.Place.{bytes_at}
use Rattle.layouts.specs.declared.places.Place.{Place}
use Rattle.layouts.specs.declared.result.ErrorKind.TheVariants.{Tag}
use Rattle.der.specs.Element.{der_length, element, optional}
use Rattle.x509.specs.Name.{name}
use Rattle.x509.specs.declared.name_places.EncodedNames.{EncodedNames as LentNames}
use Rattle.x509.specs.declared.name_places.NamePlaces.{NamePlaces}

-- The tag and the length of a SEQUENCE, whose content follows.
unfoldable pub sequence_start : Layout ℕ
sequence_start = do
  t ← number 1
  test (t == 0x30) Tag
  der_length

-- A Name, as its place in bytes of this length that end where those that are left do.
unfoldable pub name_place : ℕ → Layout Place
name_place whole = do
  before ← left
  name
  behind ← left
  done (record { offset = whole - before; length = before - behind })

-- Certificate and TBSCertificate begin; [0] EXPLICIT version DEFAULT v1; serialNumber; signature;
-- Name issuer; validity; Name subject. The rest isn't parsed.
unfoldable pub name_places : Layout NamePlaces
name_places = do
  whole ← left
  sequence_start
  sequence_start
  optional 0xa0 rest
  element
  element
  issuer ← name_place whole
  element
  subject ← name_place whole
  done (record { issuer = issuer; subject = subject })

-- The encoded names of a certificate: each with its tag and its length.
pub record EncodedNames : Type 0 where
  pub issuer : Bytes
  pub subject : Bytes

abbrev pub view_encoded : LentNames → EncodedNames
view_encoded n = record { issuer = n.issuer.now; subject = n.subject.now }

abbrev pub names_at : Bytes → NamePlaces → EncodedNames
names_at b p = record { issuer = bytes_at b p.issuer; subject = bytes_at b p.subject }
