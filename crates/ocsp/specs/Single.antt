-- The status of one certificate (RFC 6960, section 4.2.1).
use Rattle.std.specs.Prelude.{ℕ, ℤ, ◌==◌, nat_lt, if◌then◌else◌, List, [], ◌∷◌, Option, Some, None}
use Rattle.std.specs.Str.{bytes_eq}
use Rattle.layouts.specs.Bytes.{Bytes}
use Rattle.layouts.specs.Layout.{Layout, done, refuse, number, look, rest, test, choose, mapped, ◌>>=◌, ◌>>◌}
use Rattle.layouts.specs.Items.{items_in}
use Rattle.layouts.specs.declared.result.ErrorKind.TheVariants.{Tag, Verify}
use Rattle.der.specs.Element.{optional, tagged}
use Rattle.der.specs.Time.{generalized_time}
use Rattle.der.specs.Values.{integer}
use Rattle.x509.specs.Certificate.{AlgorithmIdentifier, Extension, algorithm_identifier, extension, extensions, or_none, view_algorithm}
use Rattle.ocsp.specs.declared.single.CertId.{CertId as LentCertId}
use Rattle.ocsp.specs.declared.single.CertStatus.{CertStatus}
use Rattle.ocsp.specs.declared.single.CertStatus.TheVariants as status
use Rattle.ocsp.specs.declared.single.RevokedInfo.{RevokedInfo}
use Rattle.ocsp.specs.declared.single.SingleResponse.{SingleResponse as LentSingle}

-- ENUMERATED of one byte. No value of OCSP has more; a negative one is refused.
unfoldable pub enumerated : Layout ℕ
enumerated = do
  n ← number 1
  test (nat_lt n 128) Verify
  done n

-- CertID: AlgorithmIdentifier hashAlgorithm; OCTET STRING issuerNameHash; OCTET STRING
-- issuerKeyHash; CertificateSerialNumber serialNumber (section 4.1.1).
pub record CertId : Type 0 where
  pub hash_algorithm : AlgorithmIdentifier
  pub issuer_name_hash : Bytes
  pub issuer_key_hash : Bytes
  pub serial_number : Bytes

abbrev pub view_cert_id : LentCertId → CertId
view_cert_id c = record {
  hash_algorithm = view_algorithm c.hash_algorithm;
  issuer_name_hash = c.issuer_name_hash.now;
  issuer_key_hash = c.issuer_key_hash.now;
  serial_number = c.serial_number.now;
}

unfoldable pub cert_id_content : Layout CertId
cert_id_content = do
  algorithm ← algorithm_identifier
  name ← tagged 4 rest
  key ← tagged 4 rest
  serial ← tagged 2 integer
  done (record {
    hash_algorithm = algorithm;
    issuer_name_hash = name;
    issuer_key_hash = key;
    serial_number = serial;
  })

unfoldable pub cert_id : Layout CertId
cert_id = tagged 0x30 cert_id_content

-- GeneralizedTime.
unfoldable pub time : Layout ℤ
time = tagged 0x18 generalized_time

-- CRLReason: ENUMERATED (RFC 5280, section 5.3.1).
unfoldable pub reason : Layout ℕ
reason = tagged 0x0a enumerated

-- RevokedInfo: GeneralizedTime revocationTime; [0] EXPLICIT CRLReason revocationReason OPTIONAL.
unfoldable pub revoked_content : Layout RevokedInfo
revoked_content = do
  revocation_time ← time
  revocation_reason ← optional 0xa0 reason
  done (record { revocation_time = revocation_time; revocation_reason = revocation_reason })

-- CertStatus: CHOICE { good [0] IMPLICIT NULL, revoked [1] IMPLICIT RevokedInfo, unknown [2]
-- IMPLICIT NULL }.
unfoldable pub empty_as : CertStatus → Layout CertStatus
empty_as s = done s

unfoldable pub cert_status_by : ℕ → Layout CertStatus
cert_status_by t =
    choose (t == 0x80) (tagged 0x80 (empty_as status.Good)) (
    choose (t == 0xa1) (mapped status.Revoked (tagged 0xa1 revoked_content)) (
    choose (t == 0x82) (tagged 0x82 (empty_as status.Unknown)) (
    refuse Tag)))

unfoldable pub cert_status : Layout CertStatus
cert_status = look (number 1) >>= cert_status_by

-- SingleResponse: CertID certID; CertStatus certStatus; GeneralizedTime thisUpdate; [0] EXPLICIT
-- GeneralizedTime nextUpdate OPTIONAL; [1] EXPLICIT Extensions singleExtensions OPTIONAL.
pub record SingleResponse : Type 0 where
  pub cert_id : CertId
  pub cert_status : CertStatus
  pub this_update : ℤ
  pub next_update : Option ℤ
  pub extensions : List Extension

abbrev pub view_single : LentSingle → SingleResponse
view_single r = record {
  cert_id = view_cert_id r.cert_id;
  cert_status = r.cert_status;
  this_update = r.this_update;
  next_update = r.next_update;
  extensions = items_in extension r.extensions.bytes.now;
}

unfoldable pub single_content : Layout SingleResponse
single_content = do
  cert_id ← cert_id
  cert_status ← cert_status
  this_update ← time
  next_update ← optional 0xa0 time
  extensions ← optional 0xa1 extensions
  done (record {
    cert_id = cert_id;
    cert_status = cert_status;
    this_update = this_update;
    next_update = next_update;
    extensions = or_none extensions;
  })

unfoldable pub single_response : Layout SingleResponse
single_response = tagged 0x30 single_content

-- The first response for the certificate with this serial number.
abbrev pub response_for : Bytes → List SingleResponse → Option SingleResponse
response_for serial [] = None
response_for serial (r ∷ rs) =
    if bytes_eq r.cert_id.serial_number serial then Some r else response_for serial rs
