-- Algorithms of keys and of signatures below NIST's 2.16.840.1.101.3.4 (FIPS 186-4, RFC 9881, RFC
-- 9909, RFC 9935).
use Rattle.std.specs.Prelude.{List, [], ◌∷◌, codes}
use Rattle.x509_text.specs.Object.{NamedObject, named}

unfoldable pub nist_algorithms : List NamedObject
nist_algorithms =
    named (2 ∷ 16 ∷ 840 ∷ 1 ∷ 101 ∷ 3 ∷ 4 ∷ 3 ∷ 1 ∷ []) (codes "dsa_with_SHA224")
    (codes "dsa_with_SHA224") ∷
    named (2 ∷ 16 ∷ 840 ∷ 1 ∷ 101 ∷ 3 ∷ 4 ∷ 3 ∷ 2 ∷ []) (codes "dsa_with_SHA256")
    (codes "dsa_with_SHA256") ∷
    named (2 ∷ 16 ∷ 840 ∷ 1 ∷ 101 ∷ 3 ∷ 4 ∷ 3 ∷ 3 ∷ []) (codes "id-dsa-with-sha384")
    (codes "dsa_with_SHA384") ∷
    named (2 ∷ 16 ∷ 840 ∷ 1 ∷ 101 ∷ 3 ∷ 4 ∷ 3 ∷ 4 ∷ []) (codes "id-dsa-with-sha512")
    (codes "dsa_with_SHA512") ∷
    named (2 ∷ 16 ∷ 840 ∷ 1 ∷ 101 ∷ 3 ∷ 4 ∷ 3 ∷ 5 ∷ []) (codes "id-dsa-with-sha3-224")
    (codes "dsa_with_SHA3-224") ∷
    named (2 ∷ 16 ∷ 840 ∷ 1 ∷ 101 ∷ 3 ∷ 4 ∷ 3 ∷ 6 ∷ []) (codes "id-dsa-with-sha3-256")
    (codes "dsa_with_SHA3-256") ∷
    named (2 ∷ 16 ∷ 840 ∷ 1 ∷ 101 ∷ 3 ∷ 4 ∷ 3 ∷ 7 ∷ []) (codes "id-dsa-with-sha3-384")
    (codes "dsa_with_SHA3-384") ∷
    named (2 ∷ 16 ∷ 840 ∷ 1 ∷ 101 ∷ 3 ∷ 4 ∷ 3 ∷ 8 ∷ []) (codes "id-dsa-with-sha3-512")
    (codes "dsa_with_SHA3-512") ∷
    named (2 ∷ 16 ∷ 840 ∷ 1 ∷ 101 ∷ 3 ∷ 4 ∷ 3 ∷ 9 ∷ []) (codes "id-ecdsa-with-sha3-224")
    (codes "ecdsa_with_SHA3-224") ∷
    named (2 ∷ 16 ∷ 840 ∷ 1 ∷ 101 ∷ 3 ∷ 4 ∷ 3 ∷ 10 ∷ []) (codes "id-ecdsa-with-sha3-256")
    (codes "ecdsa_with_SHA3-256") ∷
    named (2 ∷ 16 ∷ 840 ∷ 1 ∷ 101 ∷ 3 ∷ 4 ∷ 3 ∷ 11 ∷ []) (codes "id-ecdsa-with-sha3-384")
    (codes "ecdsa_with_SHA3-384") ∷
    named (2 ∷ 16 ∷ 840 ∷ 1 ∷ 101 ∷ 3 ∷ 4 ∷ 3 ∷ 12 ∷ []) (codes "id-ecdsa-with-sha3-512")
    (codes "ecdsa_with_SHA3-512") ∷
    named (2 ∷ 16 ∷ 840 ∷ 1 ∷ 101 ∷ 3 ∷ 4 ∷ 3 ∷ 13 ∷ [])
    (codes "id-rsassa-pkcs1-v1_5-with-sha3-224") (codes "RSA-SHA3-224") ∷
    named (2 ∷ 16 ∷ 840 ∷ 1 ∷ 101 ∷ 3 ∷ 4 ∷ 3 ∷ 14 ∷ [])
    (codes "id-rsassa-pkcs1-v1_5-with-sha3-256") (codes "RSA-SHA3-256") ∷
    named (2 ∷ 16 ∷ 840 ∷ 1 ∷ 101 ∷ 3 ∷ 4 ∷ 3 ∷ 15 ∷ [])
    (codes "id-rsassa-pkcs1-v1_5-with-sha3-384") (codes "RSA-SHA3-384") ∷
    named (2 ∷ 16 ∷ 840 ∷ 1 ∷ 101 ∷ 3 ∷ 4 ∷ 3 ∷ 16 ∷ [])
    (codes "id-rsassa-pkcs1-v1_5-with-sha3-512") (codes "RSA-SHA3-512") ∷
    named (2 ∷ 16 ∷ 840 ∷ 1 ∷ 101 ∷ 3 ∷ 4 ∷ 3 ∷ 17 ∷ []) (codes "id-ml-dsa-44")
    (codes "ML-DSA-44") ∷
    named (2 ∷ 16 ∷ 840 ∷ 1 ∷ 101 ∷ 3 ∷ 4 ∷ 3 ∷ 18 ∷ []) (codes "id-ml-dsa-65")
    (codes "ML-DSA-65") ∷
    named (2 ∷ 16 ∷ 840 ∷ 1 ∷ 101 ∷ 3 ∷ 4 ∷ 3 ∷ 19 ∷ []) (codes "id-ml-dsa-87")
    (codes "ML-DSA-87") ∷
    named (2 ∷ 16 ∷ 840 ∷ 1 ∷ 101 ∷ 3 ∷ 4 ∷ 3 ∷ 20 ∷ []) (codes "id-slh-dsa-sha2-128s")
    (codes "SLH-DSA-SHA2-128s") ∷
    named (2 ∷ 16 ∷ 840 ∷ 1 ∷ 101 ∷ 3 ∷ 4 ∷ 3 ∷ 21 ∷ []) (codes "id-slh-dsa-sha2-128f")
    (codes "SLH-DSA-SHA2-128f") ∷
    named (2 ∷ 16 ∷ 840 ∷ 1 ∷ 101 ∷ 3 ∷ 4 ∷ 3 ∷ 22 ∷ []) (codes "id-slh-dsa-sha2-192s")
    (codes "SLH-DSA-SHA2-192s") ∷
    named (2 ∷ 16 ∷ 840 ∷ 1 ∷ 101 ∷ 3 ∷ 4 ∷ 3 ∷ 23 ∷ []) (codes "id-slh-dsa-sha2-192f")
    (codes "SLH-DSA-SHA2-192f") ∷
    named (2 ∷ 16 ∷ 840 ∷ 1 ∷ 101 ∷ 3 ∷ 4 ∷ 3 ∷ 24 ∷ []) (codes "id-slh-dsa-sha2-256s")
    (codes "SLH-DSA-SHA2-256s") ∷
    named (2 ∷ 16 ∷ 840 ∷ 1 ∷ 101 ∷ 3 ∷ 4 ∷ 3 ∷ 25 ∷ []) (codes "id-slh-dsa-sha2-256f")
    (codes "SLH-DSA-SHA2-256f") ∷
    named (2 ∷ 16 ∷ 840 ∷ 1 ∷ 101 ∷ 3 ∷ 4 ∷ 3 ∷ 26 ∷ []) (codes "id-slh-dsa-shake-128s")
    (codes "SLH-DSA-SHAKE-128s") ∷
    named (2 ∷ 16 ∷ 840 ∷ 1 ∷ 101 ∷ 3 ∷ 4 ∷ 3 ∷ 27 ∷ []) (codes "id-slh-dsa-shake-128f")
    (codes "SLH-DSA-SHAKE-128f") ∷
    named (2 ∷ 16 ∷ 840 ∷ 1 ∷ 101 ∷ 3 ∷ 4 ∷ 3 ∷ 28 ∷ []) (codes "id-slh-dsa-shake-192s")
    (codes "SLH-DSA-SHAKE-192s") ∷
    named (2 ∷ 16 ∷ 840 ∷ 1 ∷ 101 ∷ 3 ∷ 4 ∷ 3 ∷ 29 ∷ []) (codes "id-slh-dsa-shake-192f")
    (codes "SLH-DSA-SHAKE-192f") ∷
    named (2 ∷ 16 ∷ 840 ∷ 1 ∷ 101 ∷ 3 ∷ 4 ∷ 3 ∷ 30 ∷ []) (codes "id-slh-dsa-shake-256s")
    (codes "SLH-DSA-SHAKE-256s") ∷
    named (2 ∷ 16 ∷ 840 ∷ 1 ∷ 101 ∷ 3 ∷ 4 ∷ 3 ∷ 31 ∷ []) (codes "id-slh-dsa-shake-256f")
    (codes "SLH-DSA-SHAKE-256f") ∷
    named (2 ∷ 16 ∷ 840 ∷ 1 ∷ 101 ∷ 3 ∷ 4 ∷ 4 ∷ 1 ∷ []) (codes "id-alg-ml-kem-512")
    (codes "ML-KEM-512") ∷
    named (2 ∷ 16 ∷ 840 ∷ 1 ∷ 101 ∷ 3 ∷ 4 ∷ 4 ∷ 2 ∷ []) (codes "id-alg-ml-kem-768")
    (codes "ML-KEM-768") ∷
    named (2 ∷ 16 ∷ 840 ∷ 1 ∷ 101 ∷ 3 ∷ 4 ∷ 4 ∷ 3 ∷ []) (codes "id-alg-ml-kem-1024")
    (codes "ML-KEM-1024") ∷
    []
