-- Certificates (RFC 5280, section 4.1).
use Rattle.std.specs.Prelude.{ℕ, ◌-◌, ◌==◌, length, take, nat_lt, List, [], Option, Some, None, Bool, ℤ}
use Rattle.std.specs.Option.{option_map}
use Rattle.layouts.specs.Bytes.{Bytes}
use Rattle.layouts.specs.Layout.{Layout, done, refuse, number, left, look, rest, test, choose, ◌>>=◌, ◌>>◌}
use Rattle.layouts.specs.Items.{items_in}
use Rattle.layouts.specs.declared.result.ErrorKind.TheVariants.{Tag, Verify}
use Rattle.der.specs.Element.{Element, items_of, optional, optional_element, tagged, view_element}
use Rattle.der.specs.ObjectIdentifier.{object_identifier}
use Rattle.der.specs.Time.{utc_time, generalized_time}
use Rattle.der.specs.Values.{BitString, bit_string, default_false, integer, view_bit_string}
use Rattle.x509.specs.Name.{AttributeTypeAndValue, name, relative_distinguished_name}
use Rattle.x509.specs.declared.validity.Validity.{Validity}
use Rattle.x509.specs.declared.algorithm.AlgorithmIdentifier.{AlgorithmIdentifier as LentAlgorithm}
use Rattle.x509.specs.declared.algorithm.SubjectPublicKeyInfo.{SubjectPublicKeyInfo as LentKeyInfo}
use Rattle.x509.specs.declared.extension.Extension.{Extension as LentExtension}
use Rattle.x509.specs.declared.tbs.FirstFields.{FirstFields as LentFirst}
use Rattle.x509.specs.declared.tbs.NameFields.{NameFields as LentNames}
use Rattle.x509.specs.declared.tbs.OptionalFields.{OptionalFields as LentOptional}
use Rattle.x509.specs.declared.tbs.TBSCertificate.{TBSCertificate as LentTBSCertificate}
use Rattle.x509.specs.declared.certificate.Certificate.{Certificate as LentCertificate}

-- AlgorithmIdentifier: OBJECT IDENTIFIER algorithm; ANY parameters OPTIONAL (section 4.1.1.2).
pub record AlgorithmIdentifier : Type 0 where
  pub algorithm : Bytes
  pub parameters : Option Element

abbrev pub view_algorithm : LentAlgorithm → AlgorithmIdentifier
view_algorithm a =
    record {
      algorithm = a.algorithm.content.now;
      parameters =
          option_map view_element a.parameters;
    }

unfoldable pub algorithm_content : Layout AlgorithmIdentifier
algorithm_content = do
  algorithm ← object_identifier
  parameters ← optional_element
  done (record { algorithm = algorithm; parameters = parameters })

unfoldable pub algorithm_identifier : Layout AlgorithmIdentifier
algorithm_identifier = tagged 0x30 algorithm_content

-- SubjectPublicKeyInfo: AlgorithmIdentifier algorithm; BIT STRING subjectPublicKey (section
-- 4.1.2.7).
pub record SubjectPublicKeyInfo : Type 0 where
  pub algorithm : AlgorithmIdentifier
  pub subject_public_key : BitString

abbrev pub view_key_info : LentKeyInfo → SubjectPublicKeyInfo
view_key_info k = record {
  algorithm = view_algorithm k.algorithm;
  subject_public_key = view_bit_string k.subject_public_key;
}

unfoldable pub key_info_content : Layout SubjectPublicKeyInfo
key_info_content = do
  algorithm ← algorithm_identifier
  key ← tagged 3 bit_string
  done (record { algorithm = algorithm; subject_public_key = key })

unfoldable pub subject_public_key_info : Layout SubjectPublicKeyInfo
subject_public_key_info = tagged 0x30 key_info_content

-- Time: CHOICE { utcTime UTCTime, generalTime GeneralizedTime } (section 4.1.2.5), in seconds since
-- 1970-01-01 00:00:00 UTC.
unfoldable pub time_by : ℕ → Layout ℤ
time_by t =
    choose (t == 0x17) (tagged 0x17 utc_time) (
    choose (t == 0x18) (tagged 0x18 generalized_time) (
    refuse Tag))

unfoldable pub time : Layout ℤ
time = look (number 1) >>= time_by

-- Validity: Time notBefore; Time notAfter.
unfoldable pub validity_content : Layout Validity
validity_content = do
  not_before ← time
  not_after ← time
  done (record { not_before = not_before; not_after = not_after })

unfoldable pub validity : Layout Validity
validity = tagged 0x30 validity_content

-- Extension: OBJECT IDENTIFIER extnID; BOOLEAN critical DEFAULT FALSE; OCTET STRING extnValue
-- (section 4.2).
pub record Extension : Type 0 where
  pub extn_id : Bytes
  pub critical : Bool
  pub extn_value : Bytes

abbrev pub view_extension : LentExtension → Extension
view_extension e =
    record { extn_id = e.extn_id.content.now; critical = e.critical; extn_value = e.extn_value.now }

unfoldable pub extension_content : Layout Extension
extension_content = do
  extn_id ← object_identifier
  critical ← default_false
  extn_value ← tagged 4 rest
  done (record { extn_id = extn_id; critical = critical; extn_value = extn_value })

unfoldable pub extension : Layout Extension
extension = tagged 0x30 extension_content

-- Extensions: SEQUENCE OF Extension.
unfoldable pub extensions : Layout (List Extension)
extensions = tagged 0x30 (items_of extension)

-- INTEGER version, of one byte: 0 is v1.
unfoldable pub version_content : Layout ℕ
version_content = do
  n ← number 1
  test (nat_lt n 128) Verify
  done n

unfoldable pub version : Layout ℕ
version = tagged 2 version_content

abbrev pub or_v1 : Option ℕ → ℕ
or_v1 (Some n) = n
or_v1 None = 0

-- [0] EXPLICIT Version DEFAULT v1; CertificateSerialNumber serialNumber; AlgorithmIdentifier
-- signature.
pub record FirstFields : Type 0 where
  pub version : ℕ
  pub serial_number : Bytes
  pub signature : AlgorithmIdentifier

abbrev pub view_first_fields : LentFirst → FirstFields
view_first_fields f =
    record {
      version = f.version;
      serial_number = f.serial_number.now;
      signature =
          view_algorithm f.signature;
    }

unfoldable pub first_fields : Layout FirstFields
first_fields = do
  version ← optional 0xa0 version
  serial_number ← tagged 2 integer
  signature ← algorithm_identifier
  done (record { version = or_v1 version; serial_number = serial_number; signature = signature })

-- Name issuer; Validity validity; Name subject; SubjectPublicKeyInfo subjectPublicKeyInfo.
pub record NameFields : Type 0 where
  pub issuer : List (List AttributeTypeAndValue)
  pub validity : Validity
  pub subject : List (List AttributeTypeAndValue)
  pub subject_public_key_info : SubjectPublicKeyInfo

abbrev pub view_name_fields : LentNames → NameFields
view_name_fields f = record {
  issuer = items_in relative_distinguished_name f.issuer.bytes.now;
  validity = f.validity;
  subject = items_in relative_distinguished_name f.subject.bytes.now;
  subject_public_key_info = view_key_info f.subject_public_key_info;
}

unfoldable pub name_fields : Layout NameFields
name_fields = do
  issuer ← name
  validity ← validity
  subject ← name
  key ← subject_public_key_info
  done (record
      { issuer = issuer; validity = validity; subject = subject; subject_public_key_info = key })

abbrev pub or_none : Option (List Extension) → List Extension
or_none (Some xs) = xs
or_none None = []

-- [1] IMPLICIT UniqueIdentifier issuerUniqueID OPTIONAL; [2] IMPLICIT UniqueIdentifier
-- subjectUniqueID OPTIONAL; [3] EXPLICIT Extensions extensions OPTIONAL. A UniqueIdentifier is a
-- BIT STRING.
pub record OptionalFields : Type 0 where
  pub issuer_unique_id : Option BitString
  pub subject_unique_id : Option BitString
  pub extensions : List Extension

abbrev pub view_optional_fields : LentOptional → OptionalFields
view_optional_fields f = record {
  issuer_unique_id = option_map view_bit_string f.issuer_unique_id;
  subject_unique_id = option_map view_bit_string f.subject_unique_id;
  extensions = items_in extension f.extensions.bytes.now;
}

unfoldable pub optional_fields : Layout OptionalFields
optional_fields = do
  issuer ← optional 0x81 bit_string
  subject ← optional 0x82 bit_string
  extensions ← optional 0xa3 extensions
  done (record {
    issuer_unique_id = issuer;
    subject_unique_id = subject;
    extensions =
        or_none extensions;
  })

-- TBSCertificate: these fields in order.
pub record TBSCertificate : Type 0 where
  pub first : FirstFields
  pub names : NameFields
  pub others : OptionalFields

abbrev pub view_tbs_certificate : LentTBSCertificate → TBSCertificate
view_tbs_certificate t = record {
  first = record {
    version = t.version;
    serial_number = t.serial_number.now;
    signature = view_algorithm t.signature;
  };
  names = record {
    issuer = items_in relative_distinguished_name t.issuer.bytes.now;
    validity = t.validity;
    subject = items_in relative_distinguished_name t.subject.bytes.now;
    subject_public_key_info = view_key_info t.subject_public_key_info;
  };
  others = record {
    issuer_unique_id = option_map view_bit_string t.issuer_unique_id;
    subject_unique_id = option_map view_bit_string t.subject_unique_id;
    extensions = items_in extension t.extensions.bytes.now;
  };
}

unfoldable pub tbs_certificate : Layout TBSCertificate
tbs_certificate = do
  first ← first_fields
  names ← name_fields
  others ← optional_fields
  done (record { first = first; names = names; others = others })

-- TBSCertificate tbsCertificate; AlgorithmIdentifier signatureAlgorithm; BIT STRING signatureValue
-- (section 4.1.1). The signed bytes are the bytes of the TBSCertificate: those before its rest.
pub record Certificate : Type 0 where
  pub signed_bytes : Bytes
  pub tbs_certificate : TBSCertificate
  pub signature_algorithm : AlgorithmIdentifier
  pub signature_value : BitString

abbrev pub view_certificate : LentCertificate → Certificate
view_certificate c = record {
  signed_bytes = c.signed_bytes.now;
  tbs_certificate = view_tbs_certificate c.tbs_certificate;
  signature_algorithm = view_algorithm c.signature_algorithm;
  signature_value = view_bit_string c.signature_value;
}

unfoldable pub certificate_content : Layout Certificate
certificate_content = do
  bytes ← look rest
  tbs ← tagged 0x30 tbs_certificate
  behind ← left
  algorithm ← algorithm_identifier
  signature ← tagged 3 bit_string
  done (record {
    signed_bytes = take (length bytes - behind) bytes;
    tbs_certificate = tbs;
    signature_algorithm = algorithm;
    signature_value = signature;
  })

unfoldable pub certificate : Layout Certificate
certificate = tagged 0x30 certificate_content
