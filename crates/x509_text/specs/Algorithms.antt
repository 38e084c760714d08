-- Algorithms of keys and of signatures (RFC 3279, RFC 4055, RFC 5758, RFC 8410).
use Rattle.std.specs.Prelude.{List, [], ◌∷◌, codes}
use Rattle.x509_text.specs.Object.{NamedObject, named}

unfoldable pub algorithms : List NamedObject
algorithms =
    named (1 ∷ 2 ∷ 840 ∷ 113549 ∷ 1 ∷ 1 ∷ 1 ∷ []) (codes "rsaEncryption") (codes "rsaEncryption") ∷
    named (1 ∷ 2 ∷ 840 ∷ 113549 ∷ 1 ∷ 1 ∷ 2 ∷ []) (codes "RSA-MD2") (codes "md2WithRSAEncryption") ∷
    named (1 ∷ 2 ∷ 840 ∷ 113549 ∷ 1 ∷ 1 ∷ 3 ∷ []) (codes "RSA-MD4") (codes "md4WithRSAEncryption") ∷
    named (1 ∷ 2 ∷ 840 ∷ 113549 ∷ 1 ∷ 1 ∷ 4 ∷ []) (codes "RSA-MD5") (codes "md5WithRSAEncryption") ∷
    named (1 ∷ 2 ∷ 840 ∷ 113549 ∷ 1 ∷ 1 ∷ 5 ∷ []) (codes "RSA-SHA1")
    (codes "sha1WithRSAEncryption") ∷
    named (1 ∷ 2 ∷ 840 ∷ 113549 ∷ 1 ∷ 1 ∷ 7 ∷ []) (codes "RSAES-OAEP") (codes "rsaesOaep") ∷
    named (1 ∷ 2 ∷ 840 ∷ 113549 ∷ 1 ∷ 1 ∷ 10 ∷ []) (codes "RSASSA-PSS") (codes "rsassaPss") ∷
    named (1 ∷ 2 ∷ 840 ∷ 113549 ∷ 1 ∷ 1 ∷ 11 ∷ []) (codes "RSA-SHA256")
    (codes "sha256WithRSAEncryption") ∷
    named (1 ∷ 2 ∷ 840 ∷ 113549 ∷ 1 ∷ 1 ∷ 12 ∷ []) (codes "RSA-SHA384")
    (codes "sha384WithRSAEncryption") ∷
    named (1 ∷ 2 ∷ 840 ∷ 113549 ∷ 1 ∷ 1 ∷ 13 ∷ []) (codes "RSA-SHA512")
    (codes "sha512WithRSAEncryption") ∷
    named (1 ∷ 2 ∷ 840 ∷ 113549 ∷ 1 ∷ 1 ∷ 14 ∷ []) (codes "RSA-SHA224")
    (codes "sha224WithRSAEncryption") ∷
    named (1 ∷ 2 ∷ 840 ∷ 113549 ∷ 1 ∷ 1 ∷ 15 ∷ []) (codes "RSA-SHA512/224")
    (codes "sha512-224WithRSAEncryption") ∷
    named (1 ∷ 2 ∷ 840 ∷ 113549 ∷ 1 ∷ 1 ∷ 16 ∷ []) (codes "RSA-SHA512/256")
    (codes "sha512-256WithRSAEncryption") ∷
    named (1 ∷ 2 ∷ 840 ∷ 113549 ∷ 1 ∷ 3 ∷ 1 ∷ []) (codes "dhKeyAgreement")
    (codes "dhKeyAgreement") ∷
    named (1 ∷ 2 ∷ 840 ∷ 10046 ∷ 2 ∷ 1 ∷ []) (codes "dhpublicnumber") (codes "X9.42 DH") ∷
    named (1 ∷ 2 ∷ 840 ∷ 10040 ∷ 4 ∷ 1 ∷ []) (codes "DSA") (codes "dsaEncryption") ∷
    named (1 ∷ 2 ∷ 840 ∷ 10040 ∷ 4 ∷ 3 ∷ []) (codes "DSA-SHA1") (codes "dsaWithSHA1") ∷
    named (1 ∷ 2 ∷ 840 ∷ 10045 ∷ 2 ∷ 1 ∷ []) (codes "id-ecPublicKey") (codes "id-ecPublicKey") ∷
    named (1 ∷ 2 ∷ 840 ∷ 10045 ∷ 4 ∷ 1 ∷ []) (codes "ecdsa-with-SHA1") (codes "ecdsa-with-SHA1") ∷
    named (1 ∷ 2 ∷ 840 ∷ 10045 ∷ 4 ∷ 2 ∷ []) (codes "ecdsa-with-Recommended")
    (codes "ecdsa-with-Recommended") ∷
    named (1 ∷ 2 ∷ 840 ∷ 10045 ∷ 4 ∷ 3 ∷ []) (codes "ecdsa-with-Specified")
    (codes "ecdsa-with-Specified") ∷
    named (1 ∷ 2 ∷ 840 ∷ 10045 ∷ 4 ∷ 3 ∷ 1 ∷ []) (codes "ecdsa-with-SHA224")
    (codes "ecdsa-with-SHA224") ∷
    named (1 ∷ 2 ∷ 840 ∷ 10045 ∷ 4 ∷ 3 ∷ 2 ∷ []) (codes "ecdsa-with-SHA256")
    (codes "ecdsa-with-SHA256") ∷
    named (1 ∷ 2 ∷ 840 ∷ 10045 ∷ 4 ∷ 3 ∷ 3 ∷ []) (codes "ecdsa-with-SHA384")
    (codes "ecdsa-with-SHA384") ∷
    named (1 ∷ 2 ∷ 840 ∷ 10045 ∷ 4 ∷ 3 ∷ 4 ∷ []) (codes "ecdsa-with-SHA512")
    (codes "ecdsa-with-SHA512") ∷
    named (1 ∷ 3 ∷ 14 ∷ 3 ∷ 2 ∷ 3 ∷ []) (codes "RSA-NP-MD5") (codes "md5WithRSA") ∷
    named (1 ∷ 3 ∷ 14 ∷ 3 ∷ 2 ∷ 12 ∷ []) (codes "DSA-old") (codes "dsaEncryption-old") ∷
    named (1 ∷ 3 ∷ 14 ∷ 3 ∷ 2 ∷ 13 ∷ []) (codes "DSA-SHA") (codes "dsaWithSHA") ∷
    named (1 ∷ 3 ∷ 14 ∷ 3 ∷ 2 ∷ 15 ∷ []) (codes "RSA-SHA") (codes "shaWithRSAEncryption") ∷
    named (1 ∷ 3 ∷ 14 ∷ 3 ∷ 2 ∷ 27 ∷ []) (codes "DSA-SHA1-old") (codes "dsaWithSHA1-old") ∷
    named (1 ∷ 3 ∷ 14 ∷ 3 ∷ 2 ∷ 29 ∷ []) (codes "RSA-SHA1-2") (codes "sha1WithRSA") ∷
    named (1 ∷ 3 ∷ 36 ∷ 3 ∷ 3 ∷ 1 ∷ 2 ∷ []) (codes "RSA-RIPEMD160") (codes "ripemd160WithRSA") ∷
    named (1 ∷ 3 ∷ 101 ∷ 110 ∷ []) (codes "X25519") (codes "X25519") ∷
    named (1 ∷ 3 ∷ 101 ∷ 111 ∷ []) (codes "X448") (codes "X448") ∷
    named (1 ∷ 3 ∷ 101 ∷ 112 ∷ []) (codes "ED25519") (codes "ED25519") ∷
    named (1 ∷ 3 ∷ 101 ∷ 113 ∷ []) (codes "ED448") (codes "ED448") ∷
    named (2 ∷ 5 ∷ 8 ∷ 1 ∷ 1 ∷ []) (codes "RSA") (codes "rsa") ∷
    []
