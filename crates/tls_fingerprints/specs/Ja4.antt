-- JA4, as FoxIO defined it in 2023.
use Rattle.std.specs.Prelude.{◌≡◌, ◌<◌, ◌⊎◌, ℕ, ◌+◌, ◌-◌, ◌/◌, ◌%◌, ◌==◌, Bool, not, ◌&&◌, ◌||◌, min, if◌then◌else◌, List, [], ◌∷◌, ◌++◌, length, filter, take, slice_get, codes, Option, Some, None}
use Rattle.std.specs.Char.{is_ascii_alphanumeric}
use Rattle.std.specs.List.{join_with_byte}
use Rattle.sha2.specs.Sha256.{sha256}
use Rattle.hex.specs.Hex.{encode_lower}
use Rattle.layouts.specs.Bytes.{Bytes}
use Rattle.tls_base.specs.ExtensionNumbers as extension_number
use Rattle.tls_ext.specs.InPlace.{best_version, protocol_names}
use Rattle.tls_fingerprints.specs.Numbers.{hex_digit, hex_list, rising, without_grease}
use Rattle.tls_ext.specs.Offered.{algorithms_in, content_in, known}
use Rattle.tls_fingerprints.specs.Hellos.{Client, types_in}
use Rattle.tls_fingerprints.specs.declared.hellos.Transport.{Transport}
use Rattle.tls_fingerprints.specs.declared.hellos.Transport.TheVariants as over
use Rattle.tls_fingerprints.specs.declared.ja4_numbers.Ja4Numbers.{Ja4Numbers}

-- The transport.
abbrev pub letter_of : Transport → Bytes
letter_of over.Tcp = codes "t"
letter_of over.Udp = codes "d"
letter_of over.Quic = codes "q"

-- A version of TLS, SSL or DTLS.
abbrev pub version_text : Option ℕ → Bytes
version_text None = codes "00"
version_text (Some n) =
    if n == 0x0304 then codes "13"
    else if n == 0x0303 then codes "12"
    else if n == 0x0302 then codes "11"
    else if n == 0x0301 then codes "10"
    else if n == 0x0300 then codes "s3"
    else if n == 0x0002 then codes "s2"
    else if n == 0xfeff then codes "d1"
    else if n == 0xfefd then codes "d2"
    else if n == 0xfefc then codes "d3"
    else codes "00"

-- Whether a host is named.
abbrev pub name_letter : Option Bytes → Bytes
name_letter (Some c) = codes "d"
name_letter None = codes "i"

-- A count in two decimal digits, at most 99.
abbrev pub two_digits : ℕ → Bytes
two_digits n = (48 + min n 99 / 10) ∷ (48 + min n 99 % 10) ∷ []

-- Two characters for the first and the last byte of a name: the bytes if both are ASCII letters or
-- digits, else the first and the last hexadecimal digit of the name.
abbrev pub ends_text : Option ℕ → Option ℕ → Bytes
ends_text (Some first) (Some last) =
    if is_ascii_alphanumeric first && is_ascii_alphanumeric last then first ∷ last ∷ []
    else hex_digit (first / 16) ∷ hex_digit (last % 16) ∷ []
ends_text _ _ = codes "00"

-- The name of the first protocol, if there is one.
abbrev pub protocol_text : Option (List Bytes) → Bytes
protocol_text (Some (name ∷ names)) =
    ends_text (slice_get name 0) (slice_get name (length name - 1))
protocol_text _ = codes "00"

-- The first part, with these counts of suites and extensions: the transport, the version, whether a
-- host is named, the two counts, and the first protocol (RFC 7301).
abbrev pub ja4_front_with : Transport → Client → ℕ → ℕ → Bytes
ja4_front_with t h suites types =
    letter_of t
    ++ version_text (known (best_version h.version h.extensions))
    ++ name_letter (content_in extension_number.server_name h.extensions)
    ++ two_digits suites
    ++ two_digits types
    ++ protocol_text (known (protocol_names h.extensions))

-- The first part, with the counts of the hello.
abbrev pub ja4_front_of : Transport → Client → Bytes
ja4_front_of t h =
    ja4_front_with t h (length (without_grease h.suites))
    (length (without_grease (types_in h.extensions)))

-- The text of the second part: the suites in rising order.
abbrev pub ja4_suites_of : Client → Bytes
ja4_suites_of h = hex_list (rising (without_grease h.suites))

-- The first part covers server_name and application_layer_protocol_negotiation.
abbrev pub is_in_first_part : ℕ → Bool
is_in_first_part n = n == extension_number.server_name
    || n == extension_number.application_layer_protocol_negotiation

abbrev pub other_types : List ℕ → List ℕ
other_types ns = filter (λ n. not (is_in_first_part n)) ns

abbrev pub with_algorithms : Bytes → List ℕ → Bytes
with_algorithms text [] = text
with_algorithms text (n ∷ ns) = text ++ 95 ∷ hex_list (n ∷ ns)

-- The text of the third part: the other extension types in rising order, and the signature
-- algorithms in the hello's order.
abbrev pub ja4_types_of : Client → Bytes
ja4_types_of h = with_algorithms
    (hex_list (rising (other_types (without_grease (types_in h.extensions)))))
    (without_grease (algorithms_in h.extensions))

-- The first 6 bytes of a text's SHA-256, in hexadecimal; zeros for an empty text.
abbrev pub short_digest : Bytes → Bytes
short_digest text = if length text == 0 then
    codes "000000000000" else encode_lower (take 6 (sha256 text))

-- The three parts as texts.
abbrev pub ja4_text_of : Transport → Client → Bytes
ja4_text_of t h = join_with_byte 95 (ja4_front_of t h ∷ ja4_suites_of h ∷ ja4_types_of h ∷ [])

-- The first part, and the digests of the others.
abbrev pub ja4_of : Transport → Client → Bytes
ja4_of t h =
    join_with_byte 95
    (ja4_front_of t h ∷ short_digest (ja4_suites_of h) ∷ short_digest (ja4_types_of h) ∷ [])

-- JA4 from its first part and stored numbers of a hello.
abbrev pub ja4_of_numbers : Bytes → Ja4Numbers → Bytes
ja4_of_numbers front n = join_with_byte 95 (
    front
    ∷ short_digest (hex_list (rising n.suites.items))
    ∷ short_digest
    (with_algorithms (hex_list (rising (other_types n.types.items))) n.algorithms.items)
    ∷ [])

-- The numbers are those of the hello, without GREASE.
pub record AreOf (h : Client) (n : Ja4Numbers) : Type 0 where
  pub suites : n.suites.items ≡ without_grease h.suites
  pub types : n.types.items ≡ without_grease (types_in h.extensions)
  pub algorithms : n.algorithms.items ≡ without_grease (algorithms_in h.extensions)

-- There are n numbers, and part is the digest of the text.
pub record IsPart (n : ℕ) (part : Bytes) (ns : List ℕ) (text : Bytes) : Type 0 where
  pub count : n ≡ length ns
  pub digits : part ≡ short_digest text

-- There are more suites or extensions than this.
abbrev pub IsTooLong : ℕ → Client → Type 0
IsTooLong most h = (most < length (without_grease h.suites))
    ⊎ (most < length (without_grease (types_in h.extensions)))
