-- Elliptic curves over binary fields of X9.62, and those of WTLS (WAP-261).
use Rattle.std.specs.Prelude.{List, [], ◌∷◌, codes}
use Rattle.x509_text.specs.Object.{NamedObject, named}

unfoldable pub older_curves : List NamedObject
older_curves =
    named (1 ∷ 2 ∷ 840 ∷ 10045 ∷ 3 ∷ 0 ∷ 1 ∷ []) (codes "c2pnb163v1") (codes "c2pnb163v1") ∷
    named (1 ∷ 2 ∷ 840 ∷ 10045 ∷ 3 ∷ 0 ∷ 2 ∷ []) (codes "c2pnb163v2") (codes "c2pnb163v2") ∷
    named (1 ∷ 2 ∷ 840 ∷ 10045 ∷ 3 ∷ 0 ∷ 3 ∷ []) (codes "c2pnb163v3") (codes "c2pnb163v3") ∷
    named (1 ∷ 2 ∷ 840 ∷ 10045 ∷ 3 ∷ 0 ∷ 4 ∷ []) (codes "c2pnb176v1") (codes "c2pnb176v1") ∷
    named (1 ∷ 2 ∷ 840 ∷ 10045 ∷ 3 ∷ 0 ∷ 5 ∷ []) (codes "c2tnb191v1") (codes "c2tnb191v1") ∷
    named (1 ∷ 2 ∷ 840 ∷ 10045 ∷ 3 ∷ 0 ∷ 6 ∷ []) (codes "c2tnb191v2") (codes "c2tnb191v2") ∷
    named (1 ∷ 2 ∷ 840 ∷ 10045 ∷ 3 ∷ 0 ∷ 7 ∷ []) (codes "c2tnb191v3") (codes "c2tnb191v3") ∷
    named (1 ∷ 2 ∷ 840 ∷ 10045 ∷ 3 ∷ 0 ∷ 10 ∷ []) (codes "c2pnb208w1") (codes "c2pnb208w1") ∷
    named (1 ∷ 2 ∷ 840 ∷ 10045 ∷ 3 ∷ 0 ∷ 11 ∷ []) (codes "c2tnb239v1") (codes "c2tnb239v1") ∷
    named (1 ∷ 2 ∷ 840 ∷ 10045 ∷ 3 ∷ 0 ∷ 12 ∷ []) (codes "c2tnb239v2") (codes "c2tnb239v2") ∷
    named (1 ∷ 2 ∷ 840 ∷ 10045 ∷ 3 ∷ 0 ∷ 13 ∷ []) (codes "c2tnb239v3") (codes "c2tnb239v3") ∷
    named (1 ∷ 2 ∷ 840 ∷ 10045 ∷ 3 ∷ 0 ∷ 16 ∷ []) (codes "c2pnb272w1") (codes "c2pnb272w1") ∷
    named (1 ∷ 2 ∷ 840 ∷ 10045 ∷ 3 ∷ 0 ∷ 17 ∷ []) (codes "c2pnb304w1") (codes "c2pnb304w1") ∷
    named (1 ∷ 2 ∷ 840 ∷ 10045 ∷ 3 ∷ 0 ∷ 18 ∷ []) (codes "c2tnb359v1") (codes "c2tnb359v1") ∷
    named (1 ∷ 2 ∷ 840 ∷ 10045 ∷ 3 ∷ 0 ∷ 19 ∷ []) (codes "c2pnb368w1") (codes "c2pnb368w1") ∷
    named (1 ∷ 2 ∷ 840 ∷ 10045 ∷ 3 ∷ 0 ∷ 20 ∷ []) (codes "c2tnb431r1") (codes "c2tnb431r1") ∷
    named (2 ∷ 23 ∷ 43 ∷ 1 ∷ 4 ∷ 1 ∷ []) (codes "wap-wsg-idm-ecid-wtls1")
    (codes "wap-wsg-idm-ecid-wtls1") ∷
    named (2 ∷ 23 ∷ 43 ∷ 1 ∷ 4 ∷ 3 ∷ []) (codes "wap-wsg-idm-ecid-wtls3")
    (codes "wap-wsg-idm-ecid-wtls3") ∷
    named (2 ∷ 23 ∷ 43 ∷ 1 ∷ 4 ∷ 4 ∷ []) (codes "wap-wsg-idm-ecid-wtls4")
    (codes "wap-wsg-idm-ecid-wtls4") ∷
    named (2 ∷ 23 ∷ 43 ∷ 1 ∷ 4 ∷ 5 ∷ []) (codes "wap-wsg-idm-ecid-wtls5")
    (codes "wap-wsg-idm-ecid-wtls5") ∷
    named (2 ∷ 23 ∷ 43 ∷ 1 ∷ 4 ∷ 6 ∷ []) (codes "wap-wsg-idm-ecid-wtls6")
    (codes "wap-wsg-idm-ecid-wtls6") ∷
    named (2 ∷ 23 ∷ 43 ∷ 1 ∷ 4 ∷ 7 ∷ []) (codes "wap-wsg-idm-ecid-wtls7")
    (codes "wap-wsg-idm-ecid-wtls7") ∷
    named (2 ∷ 23 ∷ 43 ∷ 1 ∷ 4 ∷ 8 ∷ []) (codes "wap-wsg-idm-ecid-wtls8")
    (codes "wap-wsg-idm-ecid-wtls8") ∷
    named (2 ∷ 23 ∷ 43 ∷ 1 ∷ 4 ∷ 9 ∷ []) (codes "wap-wsg-idm-ecid-wtls9")
    (codes "wap-wsg-idm-ecid-wtls9") ∷
    named (2 ∷ 23 ∷ 43 ∷ 1 ∷ 4 ∷ 10 ∷ []) (codes "wap-wsg-idm-ecid-wtls10")
    (codes "wap-wsg-idm-ecid-wtls10") ∷
    named (2 ∷ 23 ∷ 43 ∷ 1 ∷ 4 ∷ 11 ∷ []) (codes "wap-wsg-idm-ecid-wtls11")
    (codes "wap-wsg-idm-ecid-wtls11") ∷
    named (2 ∷ 23 ∷ 43 ∷ 1 ∷ 4 ∷ 12 ∷ []) (codes "wap-wsg-idm-ecid-wtls12")
    (codes "wap-wsg-idm-ecid-wtls12") ∷
    []
