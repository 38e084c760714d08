-- Signatures whose hash is broken: MD2, MD4 and MD5 (RFC 6151), SHA and SHA-1 (RFC 9155).
use Rattle.std.specs.Prelude.{Bool, true, List, [], ◌∷◌, ◌==◌, Option, Some, None, Result, Ok, Err, if◌then◌else◌}
use Rattle.std.specs.List.{list_any}
use Rattle.std.specs.Str.{bytes_eq}
use Rattle.layouts.specs.Bytes.{Bytes}
use Rattle.layouts.specs.Layout.{Layout, done, rest, ◌>>=◌, ◌>>◌}
use Rattle.layouts.specs.Meaning.{Refusal}
use Rattle.layouts.specs.Reading.{reading}
use Rattle.layouts.specs.Items.{value_of}
use Rattle.der.specs.Element.{Element, optional}
use Rattle.x509.specs.Certificate.{AlgorithmIdentifier, algorithm_identifier}
use Rattle.x509.specs.PublicKey.{PKCS_1}
use Rattle.x509_text.specs.Object.{content_by}

-- md2WithRSAEncryption, md4WithRSAEncryption, md5WithRSAEncryption, sha1WithRSAEncryption,
-- dsa-with-sha1, ecdsa-with-SHA1 (RFC 3279, section 2.2); of the Open Systems Environment
-- Implementors' Workshop (1.3.14): md4WithRSA, md5WithRSA, dsaWithSHA, shaWithRSASignature,
-- dsaWithSHA1, sha1WithRSASignature.
unfoldable pub weak_signatures : List Bytes
weak_signatures =
    content_by (1 ∷ 2 ∷ 840 ∷ 113549 ∷ 1 ∷ 1 ∷ 2 ∷ []) ∷
    content_by (1 ∷ 2 ∷ 840 ∷ 113549 ∷ 1 ∷ 1 ∷ 3 ∷ []) ∷
    content_by (1 ∷ 2 ∷ 840 ∷ 113549 ∷ 1 ∷ 1 ∷ 4 ∷ []) ∷
    content_by (1 ∷ 2 ∷ 840 ∷ 113549 ∷ 1 ∷ 1 ∷ 5 ∷ []) ∷
    content_by (1 ∷ 2 ∷ 840 ∷ 10040 ∷ 4 ∷ 3 ∷ []) ∷
    content_by (1 ∷ 2 ∷ 840 ∷ 10045 ∷ 4 ∷ 1 ∷ []) ∷
    content_by (1 ∷ 3 ∷ 14 ∷ 3 ∷ 2 ∷ 2 ∷ []) ∷
    content_by (1 ∷ 3 ∷ 14 ∷ 3 ∷ 2 ∷ 3 ∷ []) ∷
    content_by (1 ∷ 3 ∷ 14 ∷ 3 ∷ 2 ∷ 13 ∷ []) ∷
    content_by (1 ∷ 3 ∷ 14 ∷ 3 ∷ 2 ∷ 15 ∷ []) ∷
    content_by (1 ∷ 3 ∷ 14 ∷ 3 ∷ 2 ∷ 27 ∷ []) ∷
    content_by (1 ∷ 3 ∷ 14 ∷ 3 ∷ 2 ∷ 29 ∷ []) ∷
    []

-- md2, md4, md5, sha, sha1
unfoldable pub weak_hashes : List Bytes
weak_hashes =
    content_by (1 ∷ 2 ∷ 840 ∷ 113549 ∷ 2 ∷ 2 ∷ []) ∷
    content_by (1 ∷ 2 ∷ 840 ∷ 113549 ∷ 2 ∷ 4 ∷ []) ∷
    content_by (1 ∷ 2 ∷ 840 ∷ 113549 ∷ 2 ∷ 5 ∷ []) ∷
    content_by (1 ∷ 3 ∷ 14 ∷ 3 ∷ 2 ∷ 18 ∷ []) ∷
    content_by (1 ∷ 3 ∷ 14 ∷ 3 ∷ 2 ∷ 26 ∷ []) ∷
    []

-- RSASSA-PSS-params: [0] EXPLICIT AlgorithmIdentifier hashAlgorithm DEFAULT sha1; and what follows
-- it (RFC 4055, section 3.1).
unfoldable pub pss_hash : Layout (Option AlgorithmIdentifier)
pss_hash = do
  hash ← optional 0xa0 algorithm_identifier
  rest
  done hash

abbrev pub is_weak_hash : Option AlgorithmIdentifier → Bool
is_weak_hash (Some hash) = list_any (λ c. bytes_eq c hash.algorithm) weak_hashes
is_weak_hash None = true

abbrev pub judged : Result (Option AlgorithmIdentifier) Refusal → Option Bool
judged (Ok hash) = Some (is_weak_hash hash)
judged (Err refusal) = None

abbrev pub has_weak_hash : Bytes → Option Bool
has_weak_hash parameters = judged (value_of (reading pss_hash parameters))

abbrev pub weak_pss : Option Element → Option Bool
weak_pss None = None
weak_pss (Some e) = if e.tag == 0x30 then has_weak_hash e.content else None

-- RSASSA-PSS by its hash, others by the algorithm.
abbrev pub is_weak_signature : AlgorithmIdentifier → Option Bool
is_weak_signature a =
    if bytes_eq a.algorithm (PKCS_1 10) then weak_pss a.parameters else
    Some (list_any (λ c. bytes_eq c a.algorithm) weak_signatures)
