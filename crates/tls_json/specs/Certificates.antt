-- The fields of a certificate, by the names of RFC 5280, section 4.1.
use Rattle.std.specs.Prelude.{ℕ, List, [], ◌∷◌, codes}

abbrev pub validity_names : List (List ℕ)
validity_names = codes "notBefore" ∷ codes "notAfter" ∷ []

abbrev pub extension_names : List (List ℕ)
extension_names = codes "extnID" ∷ codes "critical" ∷ codes "extnValue" ∷ []

abbrev pub certificate_names : List (List ℕ)
certificate_names =
    codes "version" ∷ codes "serialNumber" ∷ codes "signature" ∷ codes "issuer" ∷ codes
    "validity" ∷ codes "subject"
    ∷ codes "subjectPublicKeyInfo" ∷ codes "extensions" ∷ []
