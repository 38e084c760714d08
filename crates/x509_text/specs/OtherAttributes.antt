-- Name attributes that X.520 doesn't define: RFC 4519 and RFC 4524, PKCS #9 (RFC 2985), the
-- CA/Browser Forum, RFC 3739, and Russia (RFC 9215).
use Rattle.std.specs.Prelude.{List, [], ◌∷◌, codes}
use Rattle.x509_text.specs.Object.{NamedObject, named}

unfoldable pub other_attributes : List NamedObject
other_attributes =
    named (0 ∷ 9 ∷ 2342 ∷ 19200300 ∷ 100 ∷ 1 ∷ 1 ∷ []) (codes "UID") (codes "userId") ∷
    named (0 ∷ 9 ∷ 2342 ∷ 19200300 ∷ 100 ∷ 1 ∷ 3 ∷ []) (codes "mail") (codes "rfc822Mailbox") ∷
    named (0 ∷ 9 ∷ 2342 ∷ 19200300 ∷ 100 ∷ 1 ∷ 5 ∷ []) (codes "favouriteDrink")
    (codes "favouriteDrink") ∷
    named (0 ∷ 9 ∷ 2342 ∷ 19200300 ∷ 100 ∷ 1 ∷ 25 ∷ []) (codes "DC") (codes "domainComponent") ∷
    named (0 ∷ 9 ∷ 2342 ∷ 19200300 ∷ 100 ∷ 1 ∷ 41 ∷ []) (codes "mobileTelephoneNumber")
    (codes "mobileTelephoneNumber") ∷
    named (0 ∷ 9 ∷ 2342 ∷ 19200300 ∷ 100 ∷ 1 ∷ 44 ∷ []) (codes "uid") (codes "uniqueIdentifier") ∷
    named (1 ∷ 2 ∷ 643 ∷ 3 ∷ 131 ∷ 1 ∷ 1 ∷ []) (codes "INN") (codes "INN") ∷
    named (1 ∷ 2 ∷ 643 ∷ 100 ∷ 1 ∷ []) (codes "OGRN") (codes "OGRN") ∷
    named (1 ∷ 2 ∷ 643 ∷ 100 ∷ 3 ∷ []) (codes "SNILS") (codes "SNILS") ∷
    named (1 ∷ 2 ∷ 643 ∷ 100 ∷ 5 ∷ []) (codes "OGRNIP") (codes "OGRNIP") ∷
    named (1 ∷ 2 ∷ 840 ∷ 113549 ∷ 1 ∷ 9 ∷ 1 ∷ []) (codes "emailAddress") (codes "emailAddress") ∷
    named (1 ∷ 2 ∷ 840 ∷ 113549 ∷ 1 ∷ 9 ∷ 2 ∷ []) (codes "unstructuredName")
    (codes "unstructuredName") ∷
    named (1 ∷ 2 ∷ 840 ∷ 113549 ∷ 1 ∷ 9 ∷ 7 ∷ []) (codes "challengePassword")
    (codes "challengePassword") ∷
    named (1 ∷ 2 ∷ 840 ∷ 113549 ∷ 1 ∷ 9 ∷ 8 ∷ []) (codes "unstructuredAddress")
    (codes "unstructuredAddress") ∷
    named (1 ∷ 2 ∷ 840 ∷ 113549 ∷ 1 ∷ 9 ∷ 14 ∷ []) (codes "extReq") (codes "Extension Request") ∷
    named (1 ∷ 2 ∷ 840 ∷ 113549 ∷ 1 ∷ 9 ∷ 20 ∷ []) (codes "friendlyName") (codes "friendlyName") ∷
    named (1 ∷ 2 ∷ 840 ∷ 113549 ∷ 1 ∷ 9 ∷ 21 ∷ []) (codes "localKeyID") (codes "localKeyID") ∷
    named (1 ∷ 3 ∷ 6 ∷ 1 ∷ 4 ∷ 1 ∷ 311 ∷ 60 ∷ 2 ∷ 1 ∷ 1 ∷ []) (codes "jurisdictionL")
    (codes "jurisdictionLocalityName") ∷
    named (1 ∷ 3 ∷ 6 ∷ 1 ∷ 4 ∷ 1 ∷ 311 ∷ 60 ∷ 2 ∷ 1 ∷ 2 ∷ []) (codes "jurisdictionST")
    (codes "jurisdictionStateOrProvinceName") ∷
    named (1 ∷ 3 ∷ 6 ∷ 1 ∷ 4 ∷ 1 ∷ 311 ∷ 60 ∷ 2 ∷ 1 ∷ 3 ∷ []) (codes "jurisdictionC")
    (codes "jurisdictionCountryName") ∷
    named (1 ∷ 3 ∷ 6 ∷ 1 ∷ 5 ∷ 5 ∷ 7 ∷ 9 ∷ 1 ∷ []) (codes "id-pda-dateOfBirth")
    (codes "id-pda-dateOfBirth") ∷
    named (1 ∷ 3 ∷ 6 ∷ 1 ∷ 5 ∷ 5 ∷ 7 ∷ 9 ∷ 2 ∷ []) (codes "id-pda-placeOfBirth")
    (codes "id-pda-placeOfBirth") ∷
    named (1 ∷ 3 ∷ 6 ∷ 1 ∷ 5 ∷ 5 ∷ 7 ∷ 9 ∷ 3 ∷ []) (codes "id-pda-gender") (codes "id-pda-gender") ∷
    named (1 ∷ 3 ∷ 6 ∷ 1 ∷ 5 ∷ 5 ∷ 7 ∷ 9 ∷ 4 ∷ []) (codes "id-pda-countryOfCitizenship")
    (codes "id-pda-countryOfCitizenship") ∷
    named (1 ∷ 3 ∷ 6 ∷ 1 ∷ 5 ∷ 5 ∷ 7 ∷ 9 ∷ 5 ∷ []) (codes "id-pda-countryOfResidence")
    (codes "id-pda-countryOfResidence") ∷
    []
