-- Whether the hellos of both sides fit each other.
use Rattle.std.specs.Prelude.{ℕ, Bool, true, false, ◌&&◌, ◌||◌, ◌==◌, nat_le, if◌then◌else◌, is_some, List, [], ◌∷◌, length, Option, Some, None}
use Rattle.std.specs.Str.{bytes_eq}
use Rattle.layouts.specs.Bytes.{Bytes}
use Rattle.tls_summary.specs.Fields.{cipher, client_ciphers, client_session_id, client_version, client_versions, server_session_id, version}
use Rattle.tls_summary.specs.HandshakeSummary.{HandshakeSummary}

abbrev pub is_among : ℕ → List ℕ → Bool
is_among n [] = false
is_among n (x ∷ xs) = if x == n then true else is_among n xs

-- A version is one of supported_versions (RFC 8446, section 4.2.1), or, without that extension, at
-- most the one in the ClientHello (RFC 5246, section 7.4.1.3).
abbrev pub offers_version : Option ℕ → List ℕ → Option ℕ → Bool
offers_version (Some most) versions (Some n) =
    if length versions == 0 then nat_le n most else is_among n versions
offers_version _ versions _ = false

abbrev pub offers_suite : List ℕ → Option ℕ → Bool
offers_suite suites (Some n) = is_among n suites
offers_suite suites None = false

-- The server resumes the session that the client offers (RFC 5246, section 7.4.1.3).
abbrev pub are_same : Option Bytes → Option Bytes → Bool
are_same (Some a) (Some b) = bytes_eq a b
are_same _ _ = false

-- The server chose a version that the client offers, and a cipher suite or a session of its. Where
-- one of the hellos lacks, nothing contradicts.
abbrev pub do_hellos_fit : HandshakeSummary → Bool
do_hellos_fit f = if is_some f.client && is_some f.server
    then offers_version (client_version f) (client_versions f) (version f)
    && (offers_suite (client_ciphers f) (cipher f)
    || are_same (client_session_id f) (server_session_id f)) else true
