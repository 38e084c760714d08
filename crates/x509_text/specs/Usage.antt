-- What a key may be used for (RFC 5280, sections 4.2.1.3 and 4.2.1.12), by name.
use Rattle.std.specs.Prelude.{Bool, List, [], ◌∷◌, codes}
use Rattle.layouts.specs.Bytes.{Bytes}
use Rattle.x509.specs.Extensions.{ANY_EXTENDED_KEY_USAGE, ID_KP, KeyPurposeId, AnyExtendedKeyUsage, ServerAuth, ClientAuth, CodeSigning, EmailProtection, TimeStamping, OcspSigning, Other}
use Rattle.x509.specs.declared.key_usage.KeyUsage.{KeyUsage}

-- The bits of a KeyUsage, in order: the name of each, and whether it is set.
abbrev pub usage_bits : KeyUsage → List (Bytes × Bool)
usage_bits u =
    (codes "digitalSignature", u.digital_signature)
    ∷ (codes "nonRepudiation", u.content_commitment)
    ∷ (codes "keyEncipherment", u.key_encipherment)
    ∷ (codes "dataEncipherment", u.data_encipherment)
    ∷ (codes "keyAgreement", u.key_agreement)
    ∷ (codes "keyCertSign", u.key_cert_sign)
    ∷ (codes "cRLSign", u.crl_sign)
    ∷ (codes "encipherOnly", u.encipher_only)
    ∷ (codes "decipherOnly", u.decipher_only)
    ∷ []

-- The content of the object identifier of a purpose.
abbrev pub purpose_content : KeyPurposeId → Bytes
purpose_content AnyExtendedKeyUsage = ANY_EXTENDED_KEY_USAGE
purpose_content ServerAuth = ID_KP 1
purpose_content ClientAuth = ID_KP 2
purpose_content CodeSigning = ID_KP 3
purpose_content EmailProtection = ID_KP 4
purpose_content TimeStamping = ID_KP 8
purpose_content OcspSigning = ID_KP 9
purpose_content (Other b) = b
