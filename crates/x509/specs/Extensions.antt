-- The first extension of a type, and the values of extensions (RFC 5280, section 4.2.1).
use Rattle.std.specs.Prelude.{ℕ, List, [], ◌∷◌, Option, Some, None, Bool, if◌then◌else◌}
use Rattle.std.specs.Option.{option_map}
use Rattle.std.specs.Str.{bytes_eq}
use Rattle.layouts.specs.Bytes.{Bytes}
use Rattle.layouts.specs.Layout.{Layout, done, rest, mapped, ◌>>=◌}
use Rattle.layouts.specs.Items.{items_in}
use Rattle.der.specs.Element.{items_of, optional, tagged}
use Rattle.der.specs.ObjectIdentifier.{object_identifier}
use Rattle.der.specs.Values.{BitString, bit_of, bit_string, default_false, integer}
use Rattle.x509.specs.Certificate.{Extension}
use Rattle.x509.specs.GeneralName.{GeneralName, general_name}
use Rattle.x509.specs.declared.basic_constraints.BasicConstraints.{BasicConstraints as LentBasicConstraints}
use Rattle.x509.specs.declared.key_identifier.AuthorityKeyIdentifier.{AuthorityKeyIdentifier as LentKeyIdentifier}
use Rattle.x509.specs.declared.key_usage.KeyUsage.{KeyUsage}
use Rattle.x509.specs.declared.key_usage.KeyPurposeId.{KeyPurposeId as LentKeyPurpose}
use Rattle.x509.specs.declared.key_usage.KeyPurposeId.TheVariants as lent

-- The first with this type.
abbrev pub first_of : Bytes → List Extension → Option Extension
first_of oid [] = None
first_of oid (x ∷ xs) = if bytes_eq x.extn_id oid then Some x else first_of oid xs

-- AuthorityKeyIdentifier: [0] OCTET STRING keyIdentifier, [1] GeneralNames authorityCertIssuer, [2]
-- INTEGER authorityCertSerialNumber, each IMPLICIT and OPTIONAL (section 4.2.1.1).
pub record AuthorityKeyIdentifier : Type 0 where
  pub key_identifier : Option Bytes
  pub authority_cert_issuer : Option (List GeneralName)
  pub authority_cert_serial_number : Option Bytes

abbrev pub view_key_identifier : LentKeyIdentifier → AuthorityKeyIdentifier
view_key_identifier k = record {
  key_identifier = option_map (λ x. x.now) k.key_identifier;
  authority_cert_issuer =
      option_map (λ x. items_in general_name x.bytes.now) k.authority_cert_issuer;
  authority_cert_serial_number = option_map (λ x. x.now) k.authority_cert_serial_number;
}

unfoldable pub key_identifier_content : Layout AuthorityKeyIdentifier
key_identifier_content = do
  key ← optional 0x80 rest
  issuer ← optional 0xa1 (items_of general_name)
  serial ← optional 0x82 integer
  done (record {
    key_identifier = key;
    authority_cert_issuer = issuer;
    authority_cert_serial_number = serial;
  })

unfoldable pub authority_key_identifier : Layout AuthorityKeyIdentifier
authority_key_identifier = tagged 0x30 key_identifier_content

-- SubjectKeyIdentifier: OCTET STRING (section 4.2.1.2).
unfoldable pub subject_key_identifier : Layout Bytes
subject_key_identifier = tagged 4 rest

-- KeyUsage: BIT STRING, whose bits have names (section 4.2.1.3).
abbrev pub usage_of : BitString → KeyUsage
usage_of s = record {
  digital_signature = bit_of s 0;
  content_commitment = bit_of s 1;
  key_encipherment = bit_of s 2;
  data_encipherment = bit_of s 3;
  key_agreement = bit_of s 4;
  key_cert_sign = bit_of s 5;
  crl_sign = bit_of s 6;
  encipher_only = bit_of s 7;
  decipher_only = bit_of s 8;
}

unfoldable pub key_usage : Layout KeyUsage
key_usage = mapped usage_of (tagged 3 bit_string)

-- BasicConstraints: BOOLEAN cA DEFAULT FALSE; INTEGER pathLenConstraint OPTIONAL (section 4.2.1.9).
pub record BasicConstraints : Type 0 where
  pub ca : Bool
  pub path_len_constraint : Option Bytes

abbrev pub view_basic_constraints : LentBasicConstraints → BasicConstraints
view_basic_constraints c = record {
  ca = c.ca;
  path_len_constraint = option_map (λ x. x.now) c.path_len_constraint;
}

unfoldable pub basic_constraints_content : Layout BasicConstraints
basic_constraints_content = do
  ca ← default_false
  path_len_constraint ← optional 2 integer
  done (record { ca = ca; path_len_constraint = path_len_constraint })

unfoldable pub basic_constraints : Layout BasicConstraints
basic_constraints = tagged 0x30 basic_constraints_content

-- KeyPurposeId: an OBJECT IDENTIFIER (section 4.2.1.12).
pub data KeyPurposeId : Type 0 where
  AnyExtendedKeyUsage : KeyPurposeId
  ServerAuth : KeyPurposeId
  ClientAuth : KeyPurposeId
  CodeSigning : KeyPurposeId
  EmailProtection : KeyPurposeId
  TimeStamping : KeyPurposeId
  OcspSigning : KeyPurposeId
  Other : Bytes → KeyPurposeId

abbrev pub view_key_purpose : LentKeyPurpose → KeyPurposeId
view_key_purpose lent.AnyExtendedKeyUsage = AnyExtendedKeyUsage
view_key_purpose lent.ServerAuth = ServerAuth
view_key_purpose lent.ClientAuth = ClientAuth
view_key_purpose lent.CodeSigning = CodeSigning
view_key_purpose lent.EmailProtection = EmailProtection
view_key_purpose lent.TimeStamping = TimeStamping
view_key_purpose lent.OcspSigning = OcspSigning
view_key_purpose (lent.Other o) = Other o.content.now

-- id-kp: 1.3.6.1.5.5.7.3, and a number below 128 after it.
abbrev pub ID_KP : ℕ → Bytes
ID_KP n = 0x2b ∷ 0x06 ∷ 0x01 ∷ 0x05 ∷ 0x05 ∷ 0x07 ∷ 0x03 ∷ n ∷ []

-- anyExtendedKeyUsage: 2.5.29.37.0
abbrev pub ANY_EXTENDED_KEY_USAGE : Bytes
ANY_EXTENDED_KEY_USAGE = 0x55 ∷ 0x1d ∷ 0x25 ∷ 0x00 ∷ []

abbrev pub purpose_of : Bytes → KeyPurposeId
purpose_of b =
    if bytes_eq b ANY_EXTENDED_KEY_USAGE then AnyExtendedKeyUsage else
    if bytes_eq b (ID_KP 1) then ServerAuth else
    if bytes_eq b (ID_KP 2) then ClientAuth else
    if bytes_eq b (ID_KP 3) then CodeSigning else
    if bytes_eq b (ID_KP 4) then EmailProtection else
    if bytes_eq b (ID_KP 8) then TimeStamping else
    if bytes_eq b (ID_KP 9) then OcspSigning else Other b

unfoldable pub key_purpose : Layout KeyPurposeId
key_purpose = mapped purpose_of object_identifier

-- ExtKeyUsageSyntax: SEQUENCE OF KeyPurposeId.
unfoldable pub extended_key_usage : Layout (List KeyPurposeId)
extended_key_usage = tagged 0x30 (items_of key_purpose)
