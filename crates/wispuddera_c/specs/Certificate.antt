-- Certificates as C structs (RFC 5280).
use Rattle.std.specs.Prelude.{◌≡◌, ℕ, List, Result, Ok, Err}
use Rattle.std.specs.Borrow.{Bor}
use Rattle.std.specs.Option.{option_map}
use Rattle.layouts.specs.Bytes.{Bytes}
use Rattle.layouts.specs.Items.{Returns}
use Rattle.layouts.specs.Meaning.{Refusal}
use Rattle.layouts.specs.Text.{held}
use Rattle.layouts.specs.declared.result.Err.{Err as Failed}
use Rattle.layouts.specs.declared.result.Error.{Error}
use Rattle.x509.specs.Certificate.{Certificate, Extension, extension}
use Rattle.x509.specs.GeneralName as general
use Rattle.x509.specs.GeneralName.{GeneralName}
use Rattle.x509.specs.PublicKey as public
use Rattle.x509.specs.PublicKey.{PublicKey, key_of, view_public_key}
use Rattle.x509.specs.declared.public_key.PublicKey.{PublicKey as LentPublicKey}
use Rattle.x509_places.specs.Place.{NameStands}
use Rattle.wispuddera_c.specs.declared.certificate.X509.{X509}
use Rattle.wispuddera_c.specs.declared.certificate.X509Extension.{X509Extension}
use Rattle.wispuddera_c.specs.declared.part.Part.{Part}
use Rattle.wispuddera_c.specs.Place.{StandsAt, ItemsStandAt, Follows, place_of}

-- The kind of a key, and the bit length of an RSA key's modulus; 0 if the key is refused.
abbrev pub IsKey : Result PublicKey Refusal → ℕ → ℕ → Type 0
IsKey (Ok (public.Rsa n)) kind bits = (kind ≡ 1) × (bits ≡ n)
IsKey (Ok (public.Ec curve)) kind bits = (kind ≡ 2) × (bits ≡ 0)
IsKey (Ok public.Ed25519) kind bits = (kind ≡ 3) × (bits ≡ 0)
IsKey (Ok public.Ed448) kind bits = (kind ≡ 4) × (bits ≡ 0)
IsKey (Ok (public.Other algorithm)) kind bits = (kind ≡ 5) × (bits ≡ 0)
IsKey (Err e) kind bits = (kind ≡ 0) × (bits ≡ 0)

-- The library's answer for a key.
abbrev pub KeyAnswer : Type 0
KeyAnswer = Result LentPublicKey (Failed (Error (Bor (List ℕ))))

-- The numbers are those of this answer.
abbrev pub ShowsKey : KeyAnswer → ℕ → ℕ → Type 0
ShowsKey found kind bits = (a : Result PublicKey Refusal) → Returns view_public_key a found
    → IsKey a kind bits

-- The struct shows the certificate v in b, and that r follows it.
pub record ShowsX509 (b : Bytes) (c : X509) (v : Certificate) (r : Bytes) : Type 0 where
  pub signed_bytes : StandsAt b c.signed_bytes v.signed_bytes
  pub serial_number : StandsAt b c.serial_number v.tbs_certificate.first.serial_number
  pub signature_algorithm : StandsAt b c.signature_algorithm v.signature_algorithm.algorithm
  pub issuer : NameStands b (place_of c.issuer) v.tbs_certificate.names.issuer
  pub subject : NameStands b (place_of c.subject) v.tbs_certificate.names.subject
  pub key_algorithm : StandsAt b c.key_algorithm
      v.tbs_certificate.names.subject_public_key_info.algorithm.algorithm
  pub key_parameters : StandsAt b c.key_parameters
      (held (option_map (λ e. e.content)
      v.tbs_certificate.names.subject_public_key_info.algorithm.parameters))
  pub public_key : StandsAt b c.public_key
      v.tbs_certificate.names.subject_public_key_info.subject_public_key.bytes
  pub extensions : ItemsStandAt extension b c.extensions v.tbs_certificate.others.extensions
  pub signature : StandsAt b c.signature v.signature_value.bytes
  pub not_before : c.not_before ≡ v.tbs_certificate.names.validity.not_before
  pub not_after : c.not_after ≡ v.tbs_certificate.names.validity.not_after
  pub version : c.version ≡ v.tbs_certificate.first.version
  pub key : IsKey (key_of v.tbs_certificate.names.subject_public_key_info) c.key_kind c.key_bits
  pub next : Follows b c.next r

-- The struct shows the extension v in b, and that r follows it.
pub record ShowsX509Extension (b : Bytes) (c : X509Extension) (v : Extension)
    (r : Bytes) : Type 0 where
  pub oid : StandsAt b c.oid v.extn_id
  pub value : StandsAt b c.value v.extn_value
  pub critical : c.critical ≡ v.critical
  pub next : Follows b c.next r

-- The tag of a name's element, and its content.
abbrev pub name_tag : GeneralName → ℕ
name_tag (general.Rfc822Name b) = 0x81
name_tag (general.DnsName b) = 0x82
name_tag (general.UniformResourceIdentifier b) = 0x86
name_tag (general.IpAddress b) = 0x87
name_tag (general.Other e) = e.tag

abbrev pub content_of_name : GeneralName → Bytes
content_of_name (general.Rfc822Name b) = b
content_of_name (general.DnsName b) = b
content_of_name (general.UniformResourceIdentifier b) = b
content_of_name (general.IpAddress b) = b
content_of_name (general.Other e) = e.content

-- The struct shows the name v in b, and that r follows it.
pub record ShowsName (b : Bytes) (c : Part) (v : GeneralName) (r : Bytes) : Type 0 where
  pub kind : c.kind ≡ name_tag v
  pub content : StandsAt b c.content (content_of_name v)
  pub next : Follows b c.next r
