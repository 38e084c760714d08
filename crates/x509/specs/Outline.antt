-- Certificates whose fields can't all be read (RFC 5280, section 4.1): each field is its element.
use Rattle.std.specs.Prelude.{ℕ, List, Option, Some, None, Result, Ok, Err}
use Rattle.std.specs.Option.{option_map}
use Rattle.layouts.specs.Bytes.{Bytes}
use Rattle.layouts.specs.Layout.{Layout, done, rest, mapped, ◌>>=◌, ◌>>◌}
use Rattle.layouts.specs.Meaning.{Refusal}
use Rattle.layouts.specs.Reading.{reading}
use Rattle.layouts.specs.Items.{value_of}
use Rattle.der.specs.Element.{element_bytes, optional, tagged}
use Rattle.der.specs.Values.{integer}
use Rattle.x509.specs.Certificate.{Extension, optional_fields, version}
use Rattle.x509.specs.declared.outline.FirstElements.{FirstElements as LentFirst}
use Rattle.x509.specs.declared.outline.TbsElements.{TbsElements as LentElements}
use Rattle.x509.specs.declared.outline.Outline.{Outline as LentOutline}
use Rattle.x509.specs.declared.outline.ValidityElements.{ValidityElements as LentValidity}

-- [0] EXPLICIT version OPTIONAL, whose content is kept; serialNumber; signature; issuer.
pub record FirstElements : Type 0 where
  pub version : Option Bytes
  pub serial_number : Bytes
  pub signature : Bytes
  pub issuer : Bytes

abbrev pub view_first_elements : LentFirst → FirstElements
view_first_elements f = record {
  version = option_map (λ v. v.now) f.version;
  serial_number = f.serial_number.now;
  signature = f.signature.now;
  issuer = f.issuer.now;
}

unfoldable pub first_elements : Layout FirstElements
first_elements = do
  version ← optional 0xa0 rest
  serial_number ← element_bytes
  signature ← element_bytes
  issuer ← element_bytes
  done (record
      { version = version; serial_number = serial_number; signature = signature; issuer = issuer })

-- Those; validity; subject; subjectPublicKeyInfo; and what follows.
pub record TbsElements : Type 0 where
  pub first : FirstElements
  pub validity : Bytes
  pub subject : Bytes
  pub key : Bytes
  pub others : Bytes

abbrev pub view_tbs_elements : LentElements → TbsElements
view_tbs_elements e = record {
  first = view_first_elements e.first;
  validity = e.validity.now;
  subject = e.subject.now;
  key = e.key.now;
  others = e.others.now;
}

unfoldable pub tbs_elements : Layout TbsElements
tbs_elements = do
  first ← first_elements
  validity ← element_bytes
  subject ← element_bytes
  key ← element_bytes
  others ← rest
  done (record
      { first = first; validity = validity; subject = subject; key = key; others = others })

-- A TBSCertificate, and the algorithm of the signature behind it.
pub record Outline : Type 0 where
  pub version : Option Bytes
  pub serial_number : Bytes
  pub signature : Bytes
  pub issuer : Bytes
  pub validity : Bytes
  pub subject : Bytes
  pub subject_public_key_info : Bytes
  pub others : Bytes
  pub signature_algorithm : Bytes

abbrev pub view_outline : LentOutline → Outline
view_outline o = record {
  version = option_map (λ v. v.now) o.version;
  serial_number = o.serial_number.now;
  signature = o.signature.now;
  issuer = o.issuer.now;
  validity = o.validity.now;
  subject = o.subject.now;
  subject_public_key_info = o.subject_public_key_info.now;
  others = o.others.now;
  signature_algorithm = o.signature_algorithm.now;
}

unfoldable pub outline_content : Layout Outline
outline_content = do
  tbs ← tagged 0x30 tbs_elements
  algorithm ← element_bytes
  rest
  done (record {
    version = tbs.first.version;
    serial_number = tbs.first.serial_number;
    signature = tbs.first.signature;
    issuer = tbs.first.issuer;
    validity = tbs.validity;
    subject = tbs.subject;
    subject_public_key_info = tbs.key;
    others = tbs.others;
    signature_algorithm = algorithm;
  })

unfoldable pub certificate_outline : Layout Outline
certificate_outline = tagged 0x30 outline_content

-- Validity: two elements, which should be times.
pub record ValidityElements : Type 0 where
  pub not_before : Bytes
  pub not_after : Bytes

abbrev pub view_validity_elements : LentValidity → ValidityElements
view_validity_elements v =
    record { not_before = v.not_before.now; not_after = v.not_after.now }

unfoldable pub validity_elements_content : Layout ValidityElements
validity_elements_content = do
  not_before ← element_bytes
  not_after ← element_bytes
  done (record { not_before = not_before; not_after = not_after })

unfoldable pub validity_elements : Layout ValidityElements
validity_elements = tagged 0x30 validity_elements_content

-- The version minus 1; 0 if it is absent.
abbrev pub version_of : Option Bytes → Result ℕ Refusal
version_of None = Ok 0
version_of (Some content) = value_of (reading version content)

abbrev pub serial_number_in : Bytes → Result Bytes Refusal
serial_number_in element = value_of (reading (tagged 2 integer) element)

-- The extensions in what follows the key.
abbrev pub extensions_in : Bytes → Result (List Extension) Refusal
extensions_in others = value_of (reading (mapped (λ f. f.extensions) optional_fields) others)
