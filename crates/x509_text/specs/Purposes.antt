-- Purposes of keys (RFC 5280, section 4.2.1.12).
use Rattle.std.specs.Prelude.{List, [], ◌∷◌, codes}
use Rattle.x509_text.specs.Object.{NamedObject, named}

unfoldable pub purposes : List NamedObject
purposes =
    named (1 ∷ 3 ∷ 6 ∷ 1 ∷ 5 ∷ 5 ∷ 7 ∷ 3 ∷ 1 ∷ []) (codes "serverAuth")
    (codes "TLS Web Server Authentication") ∷
    named (1 ∷ 3 ∷ 6 ∷ 1 ∷ 5 ∷ 5 ∷ 7 ∷ 3 ∷ 2 ∷ []) (codes "clientAuth")
    (codes "TLS Web Client Authentication") ∷
    named (1 ∷ 3 ∷ 6 ∷ 1 ∷ 5 ∷ 5 ∷ 7 ∷ 3 ∷ 3 ∷ []) (codes "codeSigning") (codes "Code Signing") ∷
    named (1 ∷ 3 ∷ 6 ∷ 1 ∷ 5 ∷ 5 ∷ 7 ∷ 3 ∷ 4 ∷ []) (codes "emailProtection")
    (codes "E-mail Protection") ∷
    named (1 ∷ 3 ∷ 6 ∷ 1 ∷ 5 ∷ 5 ∷ 7 ∷ 3 ∷ 5 ∷ []) (codes "ipsecEndSystem")
    (codes "IPSec End System") ∷
    named (1 ∷ 3 ∷ 6 ∷ 1 ∷ 5 ∷ 5 ∷ 7 ∷ 3 ∷ 6 ∷ []) (codes "ipsecTunnel") (codes "IPSec Tunnel") ∷
    named (1 ∷ 3 ∷ 6 ∷ 1 ∷ 5 ∷ 5 ∷ 7 ∷ 3 ∷ 7 ∷ []) (codes "ipsecUser") (codes "IPSec User") ∷
    named (1 ∷ 3 ∷ 6 ∷ 1 ∷ 5 ∷ 5 ∷ 7 ∷ 3 ∷ 8 ∷ []) (codes "timeStamping") (codes "Time Stamping") ∷
    named (1 ∷ 3 ∷ 6 ∷ 1 ∷ 5 ∷ 5 ∷ 7 ∷ 3 ∷ 9 ∷ []) (codes "OCSPSigning") (codes "OCSP Signing") ∷
    named (1 ∷ 3 ∷ 6 ∷ 1 ∷ 5 ∷ 5 ∷ 7 ∷ 3 ∷ 10 ∷ []) (codes "DVCS") (codes "dvcs") ∷
    named (1 ∷ 3 ∷ 6 ∷ 1 ∷ 5 ∷ 5 ∷ 7 ∷ 3 ∷ 17 ∷ []) (codes "ipsecIKE")
    (codes "ipsec Internet Key Exchange") ∷
    named (1 ∷ 3 ∷ 6 ∷ 1 ∷ 5 ∷ 5 ∷ 7 ∷ 3 ∷ 21 ∷ []) (codes "secureShellClient")
    (codes "SSH Client") ∷
    named (1 ∷ 3 ∷ 6 ∷ 1 ∷ 5 ∷ 5 ∷ 7 ∷ 3 ∷ 22 ∷ []) (codes "secureShellServer")
    (codes "SSH Server") ∷
    named (2 ∷ 5 ∷ 29 ∷ 37 ∷ 0 ∷ []) (codes "anyExtendedKeyUsage")
    (codes "Any Extended Key Usage") ∷
    named (1 ∷ 3 ∷ 6 ∷ 1 ∷ 4 ∷ 1 ∷ 311 ∷ 2 ∷ 1 ∷ 21 ∷ []) (codes "msCodeInd")
    (codes "Microsoft Individual Code Signing") ∷
    named (1 ∷ 3 ∷ 6 ∷ 1 ∷ 4 ∷ 1 ∷ 311 ∷ 2 ∷ 1 ∷ 22 ∷ []) (codes "msCodeCom")
    (codes "Microsoft Commercial Code Signing") ∷
    named (1 ∷ 3 ∷ 6 ∷ 1 ∷ 4 ∷ 1 ∷ 311 ∷ 10 ∷ 3 ∷ 1 ∷ []) (codes "msCTLSign")
    (codes "Microsoft Trust List Signing") ∷
    named (1 ∷ 3 ∷ 6 ∷ 1 ∷ 4 ∷ 1 ∷ 311 ∷ 10 ∷ 3 ∷ 3 ∷ []) (codes "msSGC")
    (codes "Microsoft Server Gated Crypto") ∷
    named (1 ∷ 3 ∷ 6 ∷ 1 ∷ 4 ∷ 1 ∷ 311 ∷ 10 ∷ 3 ∷ 4 ∷ []) (codes "msEFS")
    (codes "Microsoft Encrypted File System") ∷
    named (1 ∷ 3 ∷ 6 ∷ 1 ∷ 4 ∷ 1 ∷ 311 ∷ 20 ∷ 2 ∷ 2 ∷ []) (codes "msSmartcardLogin")
    (codes "Microsoft Smartcard Login") ∷
    named (2 ∷ 16 ∷ 840 ∷ 1 ∷ 113730 ∷ 4 ∷ 1 ∷ []) (codes "nsSGC")
    (codes "Netscape Server Gated Crypto") ∷
    []
