-- Elliptic curves of SEC 2 and X9.62.
use Rattle.std.specs.Prelude.{List, [], ◌∷◌, codes}
use Rattle.x509_text.specs.Object.{NamedObject, named}

unfoldable pub curves : List NamedObject
curves =
    named (1 ∷ 2 ∷ 840 ∷ 10045 ∷ 3 ∷ 1 ∷ 1 ∷ []) (codes "prime192v1") (codes "prime192v1") ∷
    named (1 ∷ 2 ∷ 840 ∷ 10045 ∷ 3 ∷ 1 ∷ 2 ∷ []) (codes "prime192v2") (codes "prime192v2") ∷
    named (1 ∷ 2 ∷ 840 ∷ 10045 ∷ 3 ∷ 1 ∷ 3 ∷ []) (codes "prime192v3") (codes "prime192v3") ∷
    named (1 ∷ 2 ∷ 840 ∷ 10045 ∷ 3 ∷ 1 ∷ 4 ∷ []) (codes "prime239v1") (codes "prime239v1") ∷
    named (1 ∷ 2 ∷ 840 ∷ 10045 ∷ 3 ∷ 1 ∷ 5 ∷ []) (codes "prime239v2") (codes "prime239v2") ∷
    named (1 ∷ 2 ∷ 840 ∷ 10045 ∷ 3 ∷ 1 ∷ 6 ∷ []) (codes "prime239v3") (codes "prime239v3") ∷
    named (1 ∷ 2 ∷ 840 ∷ 10045 ∷ 3 ∷ 1 ∷ 7 ∷ []) (codes "prime256v1") (codes "prime256v1") ∷
    named (1 ∷ 3 ∷ 132 ∷ 0 ∷ 1 ∷ []) (codes "sect163k1") (codes "sect163k1") ∷
    named (1 ∷ 3 ∷ 132 ∷ 0 ∷ 2 ∷ []) (codes "sect163r1") (codes "sect163r1") ∷
    named (1 ∷ 3 ∷ 132 ∷ 0 ∷ 3 ∷ []) (codes "sect239k1") (codes "sect239k1") ∷
    named (1 ∷ 3 ∷ 132 ∷ 0 ∷ 4 ∷ []) (codes "sect113r1") (codes "sect113r1") ∷
    named (1 ∷ 3 ∷ 132 ∷ 0 ∷ 5 ∷ []) (codes "sect113r2") (codes "sect113r2") ∷
    named (1 ∷ 3 ∷ 132 ∷ 0 ∷ 6 ∷ []) (codes "secp112r1") (codes "secp112r1") ∷
    named (1 ∷ 3 ∷ 132 ∷ 0 ∷ 7 ∷ []) (codes "secp112r2") (codes "secp112r2") ∷
    named (1 ∷ 3 ∷ 132 ∷ 0 ∷ 8 ∷ []) (codes "secp160r1") (codes "secp160r1") ∷
    named (1 ∷ 3 ∷ 132 ∷ 0 ∷ 9 ∷ []) (codes "secp160k1") (codes "secp160k1") ∷
    named (1 ∷ 3 ∷ 132 ∷ 0 ∷ 10 ∷ []) (codes "secp256k1") (codes "secp256k1") ∷
    named (1 ∷ 3 ∷ 132 ∷ 0 ∷ 15 ∷ []) (codes "sect163r2") (codes "sect163r2") ∷
    named (1 ∷ 3 ∷ 132 ∷ 0 ∷ 16 ∷ []) (codes "sect283k1") (codes "sect283k1") ∷
    named (1 ∷ 3 ∷ 132 ∷ 0 ∷ 17 ∷ []) (codes "sect283r1") (codes "sect283r1") ∷
    named (1 ∷ 3 ∷ 132 ∷ 0 ∷ 22 ∷ []) (codes "sect131r1") (codes "sect131r1") ∷
    named (1 ∷ 3 ∷ 132 ∷ 0 ∷ 23 ∷ []) (codes "sect131r2") (codes "sect131r2") ∷
    named (1 ∷ 3 ∷ 132 ∷ 0 ∷ 24 ∷ []) (codes "sect193r1") (codes "sect193r1") ∷
    named (1 ∷ 3 ∷ 132 ∷ 0 ∷ 25 ∷ []) (codes "sect193r2") (codes "sect193r2") ∷
    named (1 ∷ 3 ∷ 132 ∷ 0 ∷ 26 ∷ []) (codes "sect233k1") (codes "sect233k1") ∷
    named (1 ∷ 3 ∷ 132 ∷ 0 ∷ 27 ∷ []) (codes "sect233r1") (codes "sect233r1") ∷
    named (1 ∷ 3 ∷ 132 ∷ 0 ∷ 28 ∷ []) (codes "secp128r1") (codes "secp128r1") ∷
    named (1 ∷ 3 ∷ 132 ∷ 0 ∷ 29 ∷ []) (codes "secp128r2") (codes "secp128r2") ∷
    named (1 ∷ 3 ∷ 132 ∷ 0 ∷ 30 ∷ []) (codes "secp160r2") (codes "secp160r2") ∷
    named (1 ∷ 3 ∷ 132 ∷ 0 ∷ 31 ∷ []) (codes "secp192k1") (codes "secp192k1") ∷
    named (1 ∷ 3 ∷ 132 ∷ 0 ∷ 32 ∷ []) (codes "secp224k1") (codes "secp224k1") ∷
    named (1 ∷ 3 ∷ 132 ∷ 0 ∷ 33 ∷ []) (codes "secp224r1") (codes "secp224r1") ∷
    named (1 ∷ 3 ∷ 132 ∷ 0 ∷ 34 ∷ []) (codes "secp384r1") (codes "secp384r1") ∷
    named (1 ∷ 3 ∷ 132 ∷ 0 ∷ 35 ∷ []) (codes "secp521r1") (codes "secp521r1") ∷
    named (1 ∷ 3 ∷ 132 ∷ 0 ∷ 36 ∷ []) (codes "sect409k1") (codes "sect409k1") ∷
    named (1 ∷ 3 ∷ 132 ∷ 0 ∷ 37 ∷ []) (codes "sect409r1") (codes "sect409r1") ∷
    named (1 ∷ 3 ∷ 132 ∷ 0 ∷ 38 ∷ []) (codes "sect571k1") (codes "sect571k1") ∷
    named (1 ∷ 3 ∷ 132 ∷ 0 ∷ 39 ∷ []) (codes "sect571r1") (codes "sect571r1") ∷
    []
