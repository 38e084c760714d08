-- What can be read of a certificate (RFC 5280, section 4.1).
use Rattle.std.specs.Prelude.{ℕ, ℤ, List, Option, Some, None, Result, Ok, Err}
use Rattle.std.specs.Option.{option_map}
use Rattle.layouts.specs.Bytes.{Bytes}
use Rattle.layouts.specs.Items.{items_in, value_of}
use Rattle.layouts.specs.Layout.{Layout}
use Rattle.layouts.specs.Meaning.{Answer, Refusal}
use Rattle.layouts.specs.Reading.{reading}
use Rattle.layouts.specs.declared.result.ErrorKind.{ErrorKind}
use Rattle.x509.specs.Certificate.{
  AlgorithmIdentifier,
  Certificate,
  Extension,
  SubjectPublicKeyInfo,
  algorithm_identifier,
  certificate,
  extension,
  subject_public_key_info,
  time,
  view_algorithm,
  view_key_info,
}
use Rattle.x509.specs.Name.{AttributeTypeAndValue, name, relative_distinguished_name}
use Rattle.x509.specs.Outline.{
  Outline,
  certificate_outline,
  extensions_in,
  serial_number_in,
  validity_elements,
  version_of,
}
use Rattle.log_certificates.specs.declared.read.ReadCertificate.{ReadCertificate}
use Rattle.log_certificates.specs.declared.read.Unread.{Unread}

-- The fields of a certificate; None for one that can't be read.
pub record ReadFields : Type 0 where
  -- the version minus 1
  pub version : Option ℕ
  pub serial_number : Option Bytes
  -- the algorithm in the signed part
  pub inner_signature : Option AlgorithmIdentifier
  pub issuer : Option (List (List AttributeTypeAndValue))
  -- the first and the last second, since 1970-01-01 00:00 UTC
  pub not_before : Option ℤ
  pub not_after : Option ℤ
  pub subject : Option (List (List AttributeTypeAndValue))
  pub key : Option SubjectPublicKeyInfo
  pub extensions : Option (List Extension)
  pub signature_algorithm : Option AlgorithmIdentifier

-- A value, if nothing says why it can't be read.
abbrev pub if_read : {A : Type 0} → Option ErrorKind → A → Option A
if_read None a = Some a
if_read (Some why) a = None

abbrev pub view_read : ReadCertificate → ReadFields
view_read r = record {
  version = if_read r.unread.version r.certificate.tbs_certificate.version;
  serial_number =
      if_read r.unread.serial_number r.certificate.tbs_certificate.serial_number.now;
  inner_signature =
      if_read r.unread.inner_signature (view_algorithm r.certificate.tbs_certificate.signature);
  issuer =
      if_read r.unread.issuer
      (items_in relative_distinguished_name r.certificate.tbs_certificate.issuer.bytes.now);
  not_before =
      if_read r.unread.not_before r.certificate.tbs_certificate.validity.not_before;
  not_after = if_read r.unread.not_after r.certificate.tbs_certificate.validity.not_after;
  subject =
      if_read r.unread.subject
      (items_in relative_distinguished_name r.certificate.tbs_certificate.subject.bytes.now);
  key =
      if_read r.unread.key
      (view_key_info r.certificate.tbs_certificate.subject_public_key_info);
  extensions =
      if_read r.unread.extensions
      (items_in extension r.certificate.tbs_certificate.extensions.bytes.now);
  signature_algorithm =
      if_read r.unread.signature_algorithm (view_algorithm r.certificate.signature_algorithm);
}

abbrev pub all_read : Unread
all_read = record {
  version = None;
  serial_number = None;
  inner_signature = None;
  issuer = None;
  not_before = None;
  not_after = None;
  subject = None;
  key = None;
  extensions = None;
  signature_algorithm = None;
}

-- A certificate that can be read whole.
abbrev pub whole : Certificate → ReadFields
whole c = record {
  version = Some c.tbs_certificate.first.version;
  serial_number = Some c.tbs_certificate.first.serial_number;
  inner_signature = Some c.tbs_certificate.first.signature;
  issuer = Some c.tbs_certificate.names.issuer;
  not_before = Some c.tbs_certificate.names.validity.not_before;
  not_after = Some c.tbs_certificate.names.validity.not_after;
  subject = Some c.tbs_certificate.names.subject;
  key = Some c.tbs_certificate.names.subject_public_key_info;
  extensions = Some c.tbs_certificate.others.extensions;
  signature_algorithm = Some c.signature_algorithm;
}

abbrev pub readable : {A : Type 0} → Result A Refusal → Option A
readable (Ok a) = Some a
readable (Err refusal) = None

-- The value at the front of bytes.
abbrev pub readable_in : {A : Type 0} → Layout A → Bytes → Option A
readable_in l b = readable (value_of (reading l b))

-- The time in an element.
abbrev pub time_in : Option Bytes → Option ℤ
time_in None = None
time_in (Some element) = readable_in time element

-- A certificate whose fields are read one by one: a broken one doesn't hide the others.
abbrev pub fields_of : Outline → ReadFields
fields_of o = record {
  version = readable (version_of o.version);
  serial_number = readable (serial_number_in o.serial_number);
  inner_signature = readable_in algorithm_identifier o.signature;
  issuer = readable_in name o.issuer;
  not_before =
      time_in (option_map (λ v. v.not_before) (readable_in validity_elements o.validity));
  not_after = time_in (option_map (λ v. v.not_after) (readable_in validity_elements o.validity));
  subject = readable_in name o.subject;
  key = readable_in subject_public_key_info o.subject_public_key_info;
  extensions = readable (extensions_in o.others);
  signature_algorithm = readable_in algorithm_identifier o.signature_algorithm;
}

abbrev pub outlined : Answer Outline → Option ReadFields
outlined (Ok x) = Some (fields_of x.0)
outlined (Err refusal) = None

-- The certificate by the answer of its layout, or else by its elements; None if the bytes aren't
-- the elements of one.
abbrev pub read_by : Answer Certificate → Bytes → Option ReadFields
read_by (Ok x) b = Some (whole x.0)
read_by (Err refusal) b = outlined (reading certificate_outline b)

-- The certificate in these bytes.
abbrev pub read_in : Bytes → Option ReadFields
read_in b = read_by (reading certificate b) b

abbrev pub read_if : Option Bytes → Option ReadFields
read_if None = None
read_if (Some b) = read_in b
