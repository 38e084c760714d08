-- Signed certificate timestamps (RFC 6962, section 3).
use Rattle.std.specs.Prelude.{ℕ, List, [], ◌∷◌, length, map, Option, Some, None}
use Rattle.std.specs.Option.{option_and_then, unwrap_or}
use Rattle.hex.specs.Hex.{encode_lower}
use Rattle.layouts.specs.Bytes.{Bytes}
use Rattle.json_objects.specs.Data.{Data}
use Rattle.ocsp.specs.Timestamps as in_extensions
use Rattle.tls_key_exchange.specs.Timestamp.{SignedCertificateTimestamp, timestamp_list}
use Rattle.x509.specs.Certificate.{Extension}
use Rattle.x509.specs.Extensions.{first_of}
use Rattle.log_formats.specs.Data.{count_data, some_numbers, some_texts}
use Rattle.log_certificates.specs.Read.{readable_in}

-- 1.3.6.1.4.1.11129.2.4.2 (section 3.3)
abbrev pub CERTIFICATE_TIMESTAMPS : Bytes
CERTIFICATE_TIMESTAMPS =
    0x2b ∷ 0x06 ∷ 0x01 ∷ 0x04 ∷ 0x01 ∷ 0xd6 ∷ 0x79 ∷ 0x02 ∷ 0x04 ∷ 0x02 ∷ []

abbrev pub list_by : Option Extension → Option (List SignedCertificateTimestamp)
list_by None = None
list_by (Some e) =
    option_and_then (readable_in timestamp_list)
    (readable_in in_extensions.timestamp_list e.extn_value)

-- The timestamps in a certificate's first extension of that type.
abbrev pub timestamps_in : List Extension → List SignedCertificateTimestamp
timestamps_in extensions = unwrap_or (list_by (first_of CERTIFICATE_TIMESTAMPS extensions)) []

-- The logs that signed them.
abbrev pub ids_in : List SignedCertificateTimestamp → List Bytes
ids_in = map (λ t. t.id)

-- When they did, in milliseconds since 1970-01-01 00:00 UTC.
abbrev pub times_in : List SignedCertificateTimestamp → List ℕ
times_in = map (λ t. t.timestamp)

-- How many there are; 0 is left out.
abbrev pub count_value : {A : Type 0} → List A → Option Data
count_value [] = None
count_value (x ∷ xs) = Some (count_data (length (x ∷ xs)))

abbrev pub logs_value : List SignedCertificateTimestamp → Option Data
logs_value ts = some_texts (map encode_lower (ids_in ts))

abbrev pub times_value : List SignedCertificateTimestamp → Option Data
times_value ts = some_numbers (times_in ts)

-- The fields of a certificate's timestamps.
abbrev pub timestamp_count_value : Option (List Extension) → Option Data
timestamp_count_value = option_and_then (λ xs. count_value (timestamps_in xs))

abbrev pub timestamp_logs_value : Option (List Extension) → Option Data
timestamp_logs_value = option_and_then (λ xs. logs_value (timestamps_in xs))

abbrev pub timestamp_times_value : Option (List Extension) → Option Data
timestamp_times_value = option_and_then (λ xs. times_value (timestamps_in xs))
