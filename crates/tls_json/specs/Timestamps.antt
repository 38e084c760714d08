-- Signed certificate timestamps (RFC 6962, section 3).
use Rattle.std.specs.Prelude.{◌++◌, ℕ, List, [], ◌∷◌, map, codes, Option, Some, None, Ok, Err}
use Rattle.std.specs.Option.{option_and_then}
use Rattle.layouts.specs.Bytes.{Bytes}
use Rattle.layouts.specs.Items.{items_in, left_in}
use Rattle.layouts.specs.Layout.{counted}
use Rattle.layouts.specs.Meaning.{Answer}
use Rattle.layouts.specs.Reading.{reading}
use Rattle.serde_json.specs.Data.{Data}
use Rattle.tls_key_exchange.specs.Signature.{SignatureAndHashAlgorithm}
use Rattle.tls_key_exchange.specs.Timestamp.{SignedCertificateTimestamp, serialized_timestamp}
use Rattle.tls_json.specs.Outline.{Entries, object_of, decimal, bytes, some_bytes}
use Rattle.tls_json.specs.Whole.{list_of, blobs_of}

-- The algorithm of a signature (RFC 5246, section 7.4.1.4.1).
abbrev pub algorithm_data : SignatureAndHashAlgorithm → Data
algorithm_data a =
    object_of (decimal (codes "hash") a.hash ∷ decimal (codes "signature") a.signature ∷ [])

abbrev pub algorithm_entries : Option SignatureAndHashAlgorithm → Entries
algorithm_entries None = []
algorithm_entries (Some a) = (codes "algorithm", algorithm_data a) ∷ []

-- A SignedCertificateTimestamp (section 3.2). Its time is in milliseconds since 1970.
abbrev pub timestamp_data : SignedCertificateTimestamp → Data
timestamp_data t = object_of (
    decimal (codes "sct_version") t.sct_version
    ∷ bytes (codes "id") t.id
    ∷ decimal (codes "timestamp") t.timestamp
    ∷ some_bytes (codes "extensions") t.extensions
    ++ algorithm_entries t.signature.algorithm
    ++ bytes (codes "signature") t.signature.signature
    ∷ [])

-- The timestamps of a list, if all can be read: nothing is left.
abbrev pub parsed_entries : Bytes → List SignedCertificateTimestamp → Entries
parsed_entries [] ts = list_of (codes "scts") (map timestamp_data ts) ∷ []
parsed_entries (b ∷ left) ts = []

-- A SignedCertificateTimestampList (section 3.3) in the bytes of its list: each SerializedSCT as
-- its bytes, and by its fields.
abbrev pub list_data : Bytes → Data
list_data list = object_of (
    list_of (codes "sct_list") (blobs_of (items_in (counted 2) list))
    ∷ parsed_entries (left_in serialized_timestamp list) (items_in serialized_timestamp list))

-- Bytes, if nothing is left behind them.
abbrev pub if_ended : Bytes → Bytes → Option Bytes
if_ended [] b = Some b
if_ended (x ∷ left) b = None

abbrev pub ended : Answer Bytes → Option Bytes
ended (Ok x) = if_ended x.1 x.0
ended (Err refusal) = None

-- A list's bytes, if whole byte strings end with them.
abbrev pub if_whole : Bytes → Option Bytes
if_whole list = if_ended (left_in (counted 2) list) list

-- The content of signed_certificate_timestamp.
abbrev pub list_bytes : Bytes → Option Bytes
list_bytes content = option_and_then if_whole (ended (reading (counted 2) content))
