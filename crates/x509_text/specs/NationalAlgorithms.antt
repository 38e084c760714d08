-- Chinese and Russian algorithms of keys and of signatures (GM/T 0006, RFC 9215).
use Rattle.std.specs.Prelude.{List, [], ◌∷◌, codes}
use Rattle.x509_text.specs.Object.{NamedObject, named}

unfoldable pub national_algorithms : List NamedObject
national_algorithms =
    named (1 ∷ 2 ∷ 156 ∷ 10197 ∷ 1 ∷ 501 ∷ []) (codes "SM2-SM3") (codes "SM2-with-SM3") ∷
    named (1 ∷ 2 ∷ 156 ∷ 10197 ∷ 1 ∷ 504 ∷ []) (codes "RSA-SM3") (codes "sm3WithRSAEncryption") ∷
    named (1 ∷ 2 ∷ 643 ∷ 2 ∷ 2 ∷ 3 ∷ []) (codes "id-GostR3411-94-with-GostR3410-2001")
    (codes "GOST R 34.11-94 with GOST R 34.10-2001") ∷
    named (1 ∷ 2 ∷ 643 ∷ 2 ∷ 2 ∷ 19 ∷ []) (codes "gost2001") (codes "GOST R 34.10-2001") ∷
    named (1 ∷ 2 ∷ 643 ∷ 7 ∷ 1 ∷ 1 ∷ 1 ∷ 1 ∷ []) (codes "gost2012_256")
    (codes "GOST R 34.10-2012 with 256 bit modulus") ∷
    named (1 ∷ 2 ∷ 643 ∷ 7 ∷ 1 ∷ 1 ∷ 1 ∷ 2 ∷ []) (codes "gost2012_512")
    (codes "GOST R 34.10-2012 with 512 bit modulus") ∷
    named (1 ∷ 2 ∷ 643 ∷ 7 ∷ 1 ∷ 1 ∷ 3 ∷ 2 ∷ []) (codes "id-tc26-signwithdigest-gost3410-2012-256")
    (codes "GOST R 34.10-2012 with GOST R 34.11-2012 (256 bit)") ∷
    named (1 ∷ 2 ∷ 643 ∷ 7 ∷ 1 ∷ 1 ∷ 3 ∷ 3 ∷ []) (codes "id-tc26-signwithdigest-gost3410-2012-512")
    (codes "GOST R 34.10-2012 with GOST R 34.11-2012 (512 bit)") ∷
    []
