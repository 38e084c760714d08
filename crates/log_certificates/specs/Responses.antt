-- What a stapled OCSP response says about a certificate (RFC 6960, section 4.2).
use Rattle.std.specs.Prelude.{ℕ, ℤ, ◌==◌, if◌then◌else◌, List, [], ◌∷◌, Option, Some, None, Ok, Err, codes}
use Rattle.std.specs.Option.{option_and_then, option_map, unwrap_or}
use Rattle.std.specs.Str.{bytes_eq}
use Rattle.layouts.specs.Bytes.{Bytes}
use Rattle.layouts.specs.Meaning.{Answer}
use Rattle.layouts.specs.Reading.{reading}
use Rattle.json_objects.specs.Data.{Data}
use Rattle.ocsp.specs.Response.{
  BasicOcspResponse,
  OcspResponse,
  ResponseBytes,
  basic_ocsp_response,
  ocsp_response,
}
use Rattle.ocsp.specs.Single.{SingleResponse, response_for, view_single}
use Rattle.ocsp.specs.declared.single.CertStatus.{CertStatus}
use Rattle.ocsp.specs.declared.single.CertStatus.TheVariants as status
use Rattle.tls_key_exchange.specs.Timestamp.{SignedCertificateTimestamp}
use Rattle.x509.specs.Extensions.{first_of}
use Rattle.log_formats.specs.Data.{text_data}
use Rattle.log_formats.specs.Texts.{name_or_number}
use Rattle.log_certificates.specs.Read.{ReadFields, readable_in}
use Rattle.log_certificates.specs.Timestamps.{count_value, list_by, logs_value, times_value}
use Rattle.log_certificates.specs.Values.{time_value}
use Rattle.log_certificates.specs.declared.responses.StapledStatus.{StapledStatus as LentStatus}
use Rattle.log_certificates.specs.declared.responses.StapledStatus.TheVariants as lent

-- id-pkix-ocsp-basic, 1.3.6.1.5.5.7.48.1.1 (section 4.2.1)
abbrev pub BASIC : Bytes
BASIC = 0x2b ∷ 0x06 ∷ 0x01 ∷ 0x05 ∷ 0x05 ∷ 0x07 ∷ 0x30 ∷ 0x01 ∷ 0x01 ∷ []

-- 1.3.6.1.4.1.11129.2.4.5 (RFC 6962, section 3.3)
abbrev pub OCSP_TIMESTAMPS : Bytes
OCSP_TIMESTAMPS = 0x2b ∷ 0x06 ∷ 0x01 ∷ 0x04 ∷ 0x01 ∷ 0xd6 ∷ 0x79 ∷ 0x02 ∷ 0x04 ∷ 0x05 ∷ []

-- The responder refused to answer, by the number of its status, or it answered for the certificate.
pub data StapledStatus : Type 0 where
  Refused : ℕ → StapledStatus
  Answered : SingleResponse → StapledStatus

abbrev pub view_stapled : LentStatus → StapledStatus
view_stapled (lent.Refused n) = Refused n.0
view_stapled (lent.Answered r) = Answered (view_single r)

-- The answer, in the basic form.
abbrev pub basic_in : ResponseBytes → Option BasicOcspResponse
basic_in r =
    if bytes_eq r.response_type BASIC then readable_in basic_ocsp_response r.response else None

-- Its response for the certificate with this serial number.
abbrev pub single_by : Option Bytes → Option BasicOcspResponse → Option SingleResponse
single_by (Some serial) (Some b) = response_for serial b.tbs_response_data.responses
single_by (Some serial) None = None
single_by None b = None

-- What a response says about that certificate. Status 0 is successful.
abbrev pub status_in : Option Bytes → OcspResponse → Option StapledStatus
status_in serial r =
    if r.response_status == 0 then
    option_map Answered (single_by serial (option_and_then basic_in r.response_bytes))
    else Some (Refused r.response_status)

abbrev pub stapled_by : Option Bytes → Answer OcspResponse → Option StapledStatus
stapled_by serial (Ok x) = status_in serial x.0
stapled_by serial (Err refusal) = None

-- The bytes of a response, and the serial number of the server's certificate, if it is known.
abbrev pub stapled_in : Option Bytes → Option Bytes → Option StapledStatus
stapled_in None serial = None
stapled_in (Some b) serial = stapled_by serial (reading ocsp_response b)

abbrev pub serial_of : Option ReadFields → Option Bytes
serial_of None = None
serial_of (Some r) = r.serial_number

-- OCSPResponseStatus, by the names of section 4.2.1.
abbrev pub refusal_name : ℕ → Option (List ℕ)
refusal_name n =
    if n == 1 then Some (codes "malformedRequest")
    else if n == 2 then Some (codes "internalError")
    else if n == 3 then Some (codes "tryLater")
    else if n == 5 then Some (codes "sigRequired")
    else if n == 6 then Some (codes "unauthorized")
    else None

-- CertStatus, likewise.
abbrev pub cert_status_text : CertStatus → List ℕ
cert_status_text status.Good = codes "good"
cert_status_text (status.Revoked info) = codes "revoked"
cert_status_text status.Unknown = codes "unknown"

abbrev pub stapled_text : StapledStatus → List ℕ
stapled_text (Refused n) = name_or_number (refusal_name n) n
stapled_text (Answered r) = cert_status_text r.cert_status

abbrev pub single_of : Option StapledStatus → Option SingleResponse
single_of None = None
single_of (Some (Refused n)) = None
single_of (Some (Answered r)) = Some r

abbrev pub revocation_time : CertStatus → Option ℤ
revocation_time status.Good = None
revocation_time (status.Revoked info) = Some info.revocation_time
revocation_time status.Unknown = None

-- The timestamps in a response for a certificate.
abbrev pub stapled_timestamps : Option SingleResponse → List SignedCertificateTimestamp
stapled_timestamps None = []
stapled_timestamps (Some r) = unwrap_or (list_by (first_of OCSP_TIMESTAMPS r.extensions)) []

-- The fields of a response.
abbrev pub stapled_status_value : Option StapledStatus → Option Data
stapled_status_value = option_map (λ s. text_data (stapled_text s))

abbrev pub this_update_value : Option StapledStatus → Option Data
this_update_value s = time_value (option_map (λ r. r.this_update) (single_of s))

abbrev pub next_update_value : Option StapledStatus → Option Data
next_update_value s = time_value (option_and_then (λ r. r.next_update) (single_of s))

abbrev pub revoked_at_value : Option StapledStatus → Option Data
revoked_at_value s =
    time_value (option_and_then (λ r. revocation_time r.cert_status) (single_of s))

abbrev pub stapled_count_value : Option StapledStatus → Option Data
stapled_count_value s = count_value (stapled_timestamps (single_of s))

abbrev pub stapled_logs_value : Option StapledStatus → Option Data
stapled_logs_value s = logs_value (stapled_timestamps (single_of s))

abbrev pub stapled_times_value : Option StapledStatus → Option Data
stapled_times_value s = times_value (stapled_timestamps (single_of s))
