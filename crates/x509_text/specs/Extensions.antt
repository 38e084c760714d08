-- Extensions of certificates (RFC 5280, section 4.2; RFC 6962, section 3.3).
use Rattle.std.specs.Prelude.{List, [], ◌∷◌, codes}
use Rattle.x509_text.specs.Object.{NamedObject, named}

unfoldable pub extensions : List NamedObject
extensions =
    named (2 ∷ 5 ∷ 29 ∷ 9 ∷ []) (codes "subjectDirectoryAttributes")
    (codes "X509v3 Subject Directory Attributes") ∷
    named (2 ∷ 5 ∷ 29 ∷ 14 ∷ []) (codes "subjectKeyIdentifier")
    (codes "X509v3 Subject Key Identifier") ∷
    named (2 ∷ 5 ∷ 29 ∷ 15 ∷ []) (codes "keyUsage") (codes "X509v3 Key Usage") ∷
    named (2 ∷ 5 ∷ 29 ∷ 16 ∷ []) (codes "privateKeyUsagePeriod")
    (codes "X509v3 Private Key Usage Period") ∷
    named (2 ∷ 5 ∷ 29 ∷ 17 ∷ []) (codes "subjectAltName")
    (codes "X509v3 Subject Alternative Name") ∷
    named (2 ∷ 5 ∷ 29 ∷ 18 ∷ []) (codes "issuerAltName") (codes "X509v3 Issuer Alternative Name") ∷
    named (2 ∷ 5 ∷ 29 ∷ 19 ∷ []) (codes "basicConstraints") (codes "X509v3 Basic Constraints") ∷
    named (2 ∷ 5 ∷ 29 ∷ 30 ∷ []) (codes "nameConstraints") (codes "X509v3 Name Constraints") ∷
    named (2 ∷ 5 ∷ 29 ∷ 31 ∷ []) (codes "crlDistributionPoints")
    (codes "X509v3 CRL Distribution Points") ∷
    named (2 ∷ 5 ∷ 29 ∷ 32 ∷ []) (codes "certificatePolicies")
    (codes "X509v3 Certificate Policies") ∷
    named (2 ∷ 5 ∷ 29 ∷ 33 ∷ []) (codes "policyMappings") (codes "X509v3 Policy Mappings") ∷
    named (2 ∷ 5 ∷ 29 ∷ 35 ∷ []) (codes "authorityKeyIdentifier")
    (codes "X509v3 Authority Key Identifier") ∷
    named (2 ∷ 5 ∷ 29 ∷ 36 ∷ []) (codes "policyConstraints") (codes "X509v3 Policy Constraints") ∷
    named (2 ∷ 5 ∷ 29 ∷ 37 ∷ []) (codes "extendedKeyUsage") (codes "X509v3 Extended Key Usage") ∷
    named (2 ∷ 5 ∷ 29 ∷ 46 ∷ []) (codes "freshestCRL") (codes "X509v3 Freshest CRL") ∷
    named (2 ∷ 5 ∷ 29 ∷ 54 ∷ []) (codes "inhibitAnyPolicy") (codes "X509v3 Inhibit Any Policy") ∷
    named (1 ∷ 3 ∷ 6 ∷ 1 ∷ 5 ∷ 5 ∷ 7 ∷ 1 ∷ 1 ∷ []) (codes "authorityInfoAccess")
    (codes "Authority Information Access") ∷
    named (1 ∷ 3 ∷ 6 ∷ 1 ∷ 5 ∷ 5 ∷ 7 ∷ 1 ∷ 11 ∷ []) (codes "subjectInfoAccess")
    (codes "Subject Information Access") ∷
    named (1 ∷ 3 ∷ 6 ∷ 1 ∷ 5 ∷ 5 ∷ 7 ∷ 1 ∷ 24 ∷ []) (codes "tlsfeature") (codes "TLS Feature") ∷
    named (1 ∷ 3 ∷ 6 ∷ 1 ∷ 4 ∷ 1 ∷ 11129 ∷ 2 ∷ 4 ∷ 2 ∷ []) (codes "ct_precert_scts")
    (codes "CT Precertificate SCTs") ∷
    named (1 ∷ 3 ∷ 6 ∷ 1 ∷ 4 ∷ 1 ∷ 11129 ∷ 2 ∷ 4 ∷ 3 ∷ []) (codes "ct_precert_poison")
    (codes "CT Precertificate Poison") ∷
    named (1 ∷ 3 ∷ 6 ∷ 1 ∷ 4 ∷ 1 ∷ 11129 ∷ 2 ∷ 4 ∷ 5 ∷ []) (codes "ct_cert_scts")
    (codes "CT Certificate SCTs") ∷
    named (2 ∷ 16 ∷ 840 ∷ 1 ∷ 113730 ∷ 1 ∷ 1 ∷ []) (codes "nsCertType")
    (codes "Netscape Cert Type") ∷
    named (2 ∷ 16 ∷ 840 ∷ 1 ∷ 113730 ∷ 1 ∷ 13 ∷ []) (codes "nsComment") (codes "Netscape Comment") ∷
    []
