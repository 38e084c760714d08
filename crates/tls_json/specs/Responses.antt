-- OCSP responses (RFC 6960, section 4.2.1), by its names.
use Rattle.std.specs.Prelude.{ℕ, ◌==◌, if◌then◌else◌, ◌++◌, List, [], ◌∷◌, map, codes, Option, Some, None, Result, Ok, Err}
use Rattle.std.specs.Borrow.{Bor}
use Rattle.std.specs.Str.{bytes_eq}
use Rattle.layouts.specs.Bytes.{Bytes}
use Rattle.layouts.specs.Meaning.{Answer, Refusal, Broken, Lacks}
use Rattle.layouts.specs.Reading.{reading}
use Rattle.layouts.specs.declared.result.ErrorKind.{ErrorKind}
use Rattle.layouts.specs.declared.result.ErrorKind.TheVariants as kind
use Rattle.ocsp.specs.Response.{BasicOcspResponse, OcspResponse, ResponseBytes, ResponseData, basic_ocsp_response, ocsp_response}
use Rattle.ocsp.specs.Single.{SingleResponse}
use Rattle.ocsp.specs.declared.single.RevokedInfo.{RevokedInfo}
use Rattle.ocsp.specs.declared.single.CertStatus.{CertStatus}
use Rattle.ocsp.specs.declared.single.CertStatus.TheVariants as status
use Rattle.serde_json.specs.Data.{Data}
use Rattle.x509_text.specs.Number.{serial_number_text}
use Rattle.x509_text.specs.ObjectText.{object_text}
use Rattle.tls_json.specs.Outline.{Entries, object_of}
use Rattle.tls_json.specs.Whole.{text, whole, some_whole, list_of, name_or_code}

-- id-pkix-ocsp-basic, 1.3.6.1.5.5.7.48.1.1
abbrev pub BASIC : Bytes
BASIC = 0x2b ∷ 0x06 ∷ 0x01 ∷ 0x05 ∷ 0x05 ∷ 0x07 ∷ 0x30 ∷ 0x01 ∷ 0x01 ∷ []

-- OCSPResponseStatus
abbrev pub response_status_name : ℕ → Option (List ℕ)
response_status_name n =
    if n == 0 then Some (codes "successful")
    else if n == 1 then Some (codes "malformedRequest")
    else if n == 2 then Some (codes "internalError")
    else if n == 3 then Some (codes "tryLater")
    else if n == 5 then Some (codes "sigRequired")
    else if n == 6 then Some (codes "unauthorized")
    else None

-- CRLReason (RFC 5280, section 5.3.1)
abbrev pub reason_name : ℕ → Option (List ℕ)
reason_name n =
    if n == 0 then Some (codes "unspecified")
    else if n == 1 then Some (codes "keyCompromise")
    else if n == 2 then Some (codes "cACompromise")
    else if n == 3 then Some (codes "affiliationChanged")
    else if n == 4 then Some (codes "superseded")
    else if n == 5 then Some (codes "cessationOfOperation")
    else if n == 6 then Some (codes "certificateHold")
    else if n == 8 then Some (codes "removeFromCRL")
    else if n == 9 then Some (codes "privilegeWithdrawn")
    else if n == 10 then Some (codes "aACompromise")
    else None

-- CertStatus, and RevokedInfo after it
abbrev pub cert_status_text : CertStatus → List ℕ
cert_status_text status.Good = codes "good"
cert_status_text (status.Revoked info) = codes "revoked"
cert_status_text status.Unknown = codes "unknown"

abbrev pub reason_data : ℕ → Data
reason_data n = name_or_code (reason_name n) n

abbrev pub reason_entries : Option ℕ → Entries
reason_entries None = []
reason_entries (Some n) = (codes "revocationReason", reason_data n) ∷ []

abbrev pub revoked_entries : RevokedInfo → Entries
revoked_entries info =
    whole (codes "revocationTime") info.revocation_time ∷ reason_entries info.revocation_reason

abbrev pub revocation_entries : CertStatus → Entries
revocation_entries status.Good = []
revocation_entries (status.Revoked info) = revoked_entries info
revocation_entries status.Unknown = []

-- SingleResponse. Its times are in seconds since 1970-01-01 00:00 UTC.
abbrev pub single_data : SingleResponse → Data
single_data r = object_of (
    text (codes "serialNumber") (serial_number_text r.cert_id.serial_number)
    ∷ text (codes "certStatus") (cert_status_text r.cert_status)
    ∷ revocation_entries r.cert_status
    ++ whole (codes "thisUpdate") r.this_update ∷ []
    ++ some_whole (codes "nextUpdate") r.next_update)

-- ResponseData
abbrev pub data_entries : ResponseData → Entries
data_entries d =
    whole (codes "producedAt") d.produced_at
    ∷ list_of (codes "responses") (map single_data d.responses)
    ∷ []

-- BasicOCSPResponse
abbrev pub basic_entries : BasicOcspResponse → Entries
basic_entries b =
    data_entries b.tbs_response_data
    ++ text (codes "signatureAlgorithm") (object_text b.signature_algorithm.algorithm)
    ∷ []

-- Why bytes can't be read.
abbrev pub kind_name : ErrorKind → List ℕ
kind_name kind.TooLarge = codes "too_large"
kind_name kind.LengthValue = codes "length_value"
kind_name kind.Verify = codes "verify"
kind_name kind.Switch = codes "switch"
kind_name kind.Tag = codes "tag"
kind_name kind.Complete = codes "complete"

abbrev pub refusal_name : Refusal → List ℕ
refusal_name (Lacks n) = codes "incomplete"
refusal_name (Broken k) = kind_name k

-- The value that takes all bytes, or why there is none.
abbrev pub if_ended : {A : Type 0} → Bytes → A → Result A (List ℕ)
if_ended [] a = Ok a
if_ended (b ∷ left) a = Err (codes "trailing")

abbrev pub read_whole : {A : Type 0} → Answer A → Result A (List ℕ)
read_whole (Ok x) = if_ended x.1 x.0
read_whole (Err refusal) = Err (refusal_name refusal)

abbrev pub viewed : {X A : Type 0} → (X → A) → Result X (Bor (List ℕ)) → Result A (List ℕ)
viewed view (Ok x) = Ok (view x)
viewed view (Err name) = Err name.now

-- A BasicOCSPResponse that was read, or why it wasn't.
abbrev pub basic_or_error : Result BasicOcspResponse (List ℕ) → Entries
basic_or_error (Ok b) = basic_entries b
basic_or_error (Err name) = text (codes "error") name ∷ []

-- ResponseBytes; only a BasicOCSPResponse has fields.
abbrev pub answered_entries : ResponseBytes → Entries
answered_entries a =
    if bytes_eq a.response_type BASIC
    then basic_or_error (read_whole (reading basic_ocsp_response a.response)) else []

abbrev pub answer_entries : ResponseBytes → Entries
answer_entries a =
    text (codes "responseType") (object_text a.response_type) ∷ answered_entries a

abbrev pub some_answer : Option ResponseBytes → Entries
some_answer None = []
some_answer (Some a) = answer_entries a

-- OCSPResponse
abbrev pub status_data : ℕ → Data
status_data n = name_or_code (response_status_name n) n

abbrev pub response_entries : OcspResponse → Entries
response_entries r =
    (codes "responseStatus", status_data r.response_status) ∷ some_answer r.response_bytes

abbrev pub response_or_error : Result OcspResponse (List ℕ) → Entries
response_or_error (Ok r) = response_entries r
response_or_error (Err name) = text (codes "error") name ∷ []

abbrev pub response_data : Bytes → Data
response_data b = object_of (response_or_error (read_whole (reading ocsp_response b)))
