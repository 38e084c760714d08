-- Name attributes that X.520 defines, from 2.5.4.32 on.
use Rattle.std.specs.Prelude.{List, [], ◌∷◌, codes}
use Rattle.x509_text.specs.Object.{NamedObject, named}

unfoldable pub further_directory_attributes : List NamedObject
further_directory_attributes =
    named (2 ∷ 5 ∷ 4 ∷ 32 ∷ []) (codes "owner") (codes "owner") ∷
    named (2 ∷ 5 ∷ 4 ∷ 33 ∷ []) (codes "roleOccupant") (codes "roleOccupant") ∷
    named (2 ∷ 5 ∷ 4 ∷ 34 ∷ []) (codes "seeAlso") (codes "seeAlso") ∷
    named (2 ∷ 5 ∷ 4 ∷ 35 ∷ []) (codes "userPassword") (codes "userPassword") ∷
    named (2 ∷ 5 ∷ 4 ∷ 36 ∷ []) (codes "userCertificate") (codes "userCertificate") ∷
    named (2 ∷ 5 ∷ 4 ∷ 37 ∷ []) (codes "cACertificate") (codes "cACertificate") ∷
    named (2 ∷ 5 ∷ 4 ∷ 38 ∷ []) (codes "authorityRevocationList")
    (codes "authorityRevocationList") ∷
    named (2 ∷ 5 ∷ 4 ∷ 39 ∷ []) (codes "certificateRevocationList")
    (codes "certificateRevocationList") ∷
    named (2 ∷ 5 ∷ 4 ∷ 40 ∷ []) (codes "crossCertificatePair") (codes "crossCertificatePair") ∷
    named (2 ∷ 5 ∷ 4 ∷ 41 ∷ []) (codes "name") (codes "name") ∷
    named (2 ∷ 5 ∷ 4 ∷ 42 ∷ []) (codes "GN") (codes "givenName") ∷
    named (2 ∷ 5 ∷ 4 ∷ 43 ∷ []) (codes "initials") (codes "initials") ∷
    named (2 ∷ 5 ∷ 4 ∷ 44 ∷ []) (codes "generationQualifier") (codes "generationQualifier") ∷
    named (2 ∷ 5 ∷ 4 ∷ 45 ∷ []) (codes "x500UniqueIdentifier") (codes "x500UniqueIdentifier") ∷
    named (2 ∷ 5 ∷ 4 ∷ 46 ∷ []) (codes "dnQualifier") (codes "dnQualifier") ∷
    named (2 ∷ 5 ∷ 4 ∷ 47 ∷ []) (codes "enhancedSearchGuide") (codes "enhancedSearchGuide") ∷
    named (2 ∷ 5 ∷ 4 ∷ 48 ∷ []) (codes "protocolInformation") (codes "protocolInformation") ∷
    named (2 ∷ 5 ∷ 4 ∷ 49 ∷ []) (codes "distinguishedName") (codes "distinguishedName") ∷
    named (2 ∷ 5 ∷ 4 ∷ 50 ∷ []) (codes "uniqueMember") (codes "uniqueMember") ∷
    named (2 ∷ 5 ∷ 4 ∷ 51 ∷ []) (codes "houseIdentifier") (codes "houseIdentifier") ∷
    named (2 ∷ 5 ∷ 4 ∷ 52 ∷ []) (codes "supportedAlgorithms") (codes "supportedAlgorithms") ∷
    named (2 ∷ 5 ∷ 4 ∷ 53 ∷ []) (codes "deltaRevocationList") (codes "deltaRevocationList") ∷
    named (2 ∷ 5 ∷ 4 ∷ 54 ∷ []) (codes "dmdName") (codes "dmdName") ∷
    named (2 ∷ 5 ∷ 4 ∷ 65 ∷ []) (codes "pseudonym") (codes "pseudonym") ∷
    named (2 ∷ 5 ∷ 4 ∷ 72 ∷ []) (codes "role") (codes "role") ∷
    named (2 ∷ 5 ∷ 4 ∷ 97 ∷ []) (codes "organizationIdentifier") (codes "organizationIdentifier") ∷
    named (2 ∷ 5 ∷ 4 ∷ 98 ∷ []) (codes "c3") (codes "countryCode3c") ∷
    named (2 ∷ 5 ∷ 4 ∷ 99 ∷ []) (codes "n3") (codes "countryCode3n") ∷
    named (2 ∷ 5 ∷ 4 ∷ 100 ∷ []) (codes "dnsName") (codes "dnsName") ∷
    []
