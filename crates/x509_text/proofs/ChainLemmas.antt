-- Chains of none and of one are in order.
use Rattle.std.proofs.Common.{◌≡◌, ◌<◌, List, [], ◌∷◌, length, map, true, refl, arith}
use Rattle.x509.specs.declared.certificate.Certificate.{Certificate}
use Rattle.x509_text.specs.Chain.{chain_in_order, names_of}

pub short_in_order : (chain : List Certificate) → length chain < 2
    → chain_in_order (map names_of chain) ≡ true
short_in_order [] h = refl
short_in_order (c ∷ []) h = refl
short_in_order (c ∷ d ∷ others) h = absurd (omega arith)
