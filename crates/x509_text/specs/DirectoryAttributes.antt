-- Name attributes that X.520 defines, up to 2.5.4.31.
use Rattle.std.specs.Prelude.{List, [], ◌∷◌, codes}
use Rattle.x509_text.specs.Object.{NamedObject, named}

unfoldable pub directory_attributes : List NamedObject
directory_attributes =
    named (2 ∷ 5 ∷ 4 ∷ 3 ∷ []) (codes "CN") (codes "commonName") ∷
    named (2 ∷ 5 ∷ 4 ∷ 4 ∷ []) (codes "SN") (codes "surname") ∷
    named (2 ∷ 5 ∷ 4 ∷ 5 ∷ []) (codes "serialNumber") (codes "serialNumber") ∷
    named (2 ∷ 5 ∷ 4 ∷ 6 ∷ []) (codes "C") (codes "countryName") ∷
    named (2 ∷ 5 ∷ 4 ∷ 7 ∷ []) (codes "L") (codes "localityName") ∷
    named (2 ∷ 5 ∷ 4 ∷ 8 ∷ []) (codes "ST") (codes "stateOrProvinceName") ∷
    named (2 ∷ 5 ∷ 4 ∷ 9 ∷ []) (codes "street") (codes "streetAddress") ∷
    named (2 ∷ 5 ∷ 4 ∷ 10 ∷ []) (codes "O") (codes "organizationName") ∷
    named (2 ∷ 5 ∷ 4 ∷ 11 ∷ []) (codes "OU") (codes "organizationalUnitName") ∷
    named (2 ∷ 5 ∷ 4 ∷ 12 ∷ []) (codes "title") (codes "title") ∷
    named (2 ∷ 5 ∷ 4 ∷ 13 ∷ []) (codes "description") (codes "description") ∷
    named (2 ∷ 5 ∷ 4 ∷ 14 ∷ []) (codes "searchGuide") (codes "searchGuide") ∷
    named (2 ∷ 5 ∷ 4 ∷ 15 ∷ []) (codes "businessCategory") (codes "businessCategory") ∷
    named (2 ∷ 5 ∷ 4 ∷ 16 ∷ []) (codes "postalAddress") (codes "postalAddress") ∷
    named (2 ∷ 5 ∷ 4 ∷ 17 ∷ []) (codes "postalCode") (codes "postalCode") ∷
    named (2 ∷ 5 ∷ 4 ∷ 18 ∷ []) (codes "postOfficeBox") (codes "postOfficeBox") ∷
    named (2 ∷ 5 ∷ 4 ∷ 19 ∷ []) (codes "physicalDeliveryOfficeName")
    (codes "physicalDeliveryOfficeName") ∷
    named (2 ∷ 5 ∷ 4 ∷ 20 ∷ []) (codes "telephoneNumber") (codes "telephoneNumber") ∷
    named (2 ∷ 5 ∷ 4 ∷ 21 ∷ []) (codes "telexNumber") (codes "telexNumber") ∷
    named (2 ∷ 5 ∷ 4 ∷ 22 ∷ []) (codes "teletexTerminalIdentifier")
    (codes "teletexTerminalIdentifier") ∷
    named (2 ∷ 5 ∷ 4 ∷ 23 ∷ []) (codes "facsimileTelephoneNumber")
    (codes "facsimileTelephoneNumber") ∷
    named (2 ∷ 5 ∷ 4 ∷ 24 ∷ []) (codes "x121Address") (codes "x121Address") ∷
    named (2 ∷ 5 ∷ 4 ∷ 25 ∷ []) (codes "internationaliSDNNumber")
    (codes "internationaliSDNNumber") ∷
    named (2 ∷ 5 ∷ 4 ∷ 26 ∷ []) (codes "registeredAddress") (codes "registeredAddress") ∷
    named (2 ∷ 5 ∷ 4 ∷ 27 ∷ []) (codes "destinationIndicator") (codes "destinationIndicator") ∷
    named (2 ∷ 5 ∷ 4 ∷ 28 ∷ []) (codes "preferredDeliveryMethod")
    (codes "preferredDeliveryMethod") ∷
    named (2 ∷ 5 ∷ 4 ∷ 29 ∷ []) (codes "presentationAddress") (codes "presentationAddress") ∷
    named (2 ∷ 5 ∷ 4 ∷ 30 ∷ []) (codes "supportedApplicationContext")
    (codes "supportedApplicationContext") ∷
    named (2 ∷ 5 ∷ 4 ∷ 31 ∷ []) (codes "member") (codes "member") ∷
    []
