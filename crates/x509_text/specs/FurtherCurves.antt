-- Elliptic curves of RFC 5639 and GM/T 0006.
use Rattle.std.specs.Prelude.{List, [], ◌∷◌, codes}
use Rattle.x509_text.specs.Object.{NamedObject, named}

unfoldable pub further_curves : List NamedObject
further_curves =
    named (1 ∷ 3 ∷ 36 ∷ 3 ∷ 3 ∷ 2 ∷ 8 ∷ 1 ∷ 1 ∷ 1 ∷ []) (codes "brainpoolP160r1")
    (codes "brainpoolP160r1") ∷
    named (1 ∷ 3 ∷ 36 ∷ 3 ∷ 3 ∷ 2 ∷ 8 ∷ 1 ∷ 1 ∷ 2 ∷ []) (codes "brainpoolP160t1")
    (codes "brainpoolP160t1") ∷
    named (1 ∷ 3 ∷ 36 ∷ 3 ∷ 3 ∷ 2 ∷ 8 ∷ 1 ∷ 1 ∷ 3 ∷ []) (codes "brainpoolP192r1")
    (codes "brainpoolP192r1") ∷
    named (1 ∷ 3 ∷ 36 ∷ 3 ∷ 3 ∷ 2 ∷ 8 ∷ 1 ∷ 1 ∷ 4 ∷ []) (codes "brainpoolP192t1")
    (codes "brainpoolP192t1") ∷
    named (1 ∷ 3 ∷ 36 ∷ 3 ∷ 3 ∷ 2 ∷ 8 ∷ 1 ∷ 1 ∷ 5 ∷ []) (codes "brainpoolP224r1")
    (codes "brainpoolP224r1") ∷
    named (1 ∷ 3 ∷ 36 ∷ 3 ∷ 3 ∷ 2 ∷ 8 ∷ 1 ∷ 1 ∷ 6 ∷ []) (codes "brainpoolP224t1")
    (codes "brainpoolP224t1") ∷
    named (1 ∷ 3 ∷ 36 ∷ 3 ∷ 3 ∷ 2 ∷ 8 ∷ 1 ∷ 1 ∷ 7 ∷ []) (codes "brainpoolP256r1")
    (codes "brainpoolP256r1") ∷
    named (1 ∷ 3 ∷ 36 ∷ 3 ∷ 3 ∷ 2 ∷ 8 ∷ 1 ∷ 1 ∷ 8 ∷ []) (codes "brainpoolP256t1")
    (codes "brainpoolP256t1") ∷
    named (1 ∷ 3 ∷ 36 ∷ 3 ∷ 3 ∷ 2 ∷ 8 ∷ 1 ∷ 1 ∷ 9 ∷ []) (codes "brainpoolP320r1")
    (codes "brainpoolP320r1") ∷
    named (1 ∷ 3 ∷ 36 ∷ 3 ∷ 3 ∷ 2 ∷ 8 ∷ 1 ∷ 1 ∷ 10 ∷ []) (codes "brainpoolP320t1")
    (codes "brainpoolP320t1") ∷
    named (1 ∷ 3 ∷ 36 ∷ 3 ∷ 3 ∷ 2 ∷ 8 ∷ 1 ∷ 1 ∷ 11 ∷ []) (codes "brainpoolP384r1")
    (codes "brainpoolP384r1") ∷
    named (1 ∷ 3 ∷ 36 ∷ 3 ∷ 3 ∷ 2 ∷ 8 ∷ 1 ∷ 1 ∷ 12 ∷ []) (codes "brainpoolP384t1")
    (codes "brainpoolP384t1") ∷
    named (1 ∷ 3 ∷ 36 ∷ 3 ∷ 3 ∷ 2 ∷ 8 ∷ 1 ∷ 1 ∷ 13 ∷ []) (codes "brainpoolP512r1")
    (codes "brainpoolP512r1") ∷
    named (1 ∷ 3 ∷ 36 ∷ 3 ∷ 3 ∷ 2 ∷ 8 ∷ 1 ∷ 1 ∷ 14 ∷ []) (codes "brainpoolP512t1")
    (codes "brainpoolP512t1") ∷
    named (1 ∷ 2 ∷ 156 ∷ 10197 ∷ 1 ∷ 301 ∷ []) (codes "SM2") (codes "sm2") ∷
    []
