-- Chains of certificates, in the order in which TLS sends them (RFC 5246, section 7.4.2).
use Rattle.std.specs.Prelude.{◌&&◌, Bool, true, List, [], ◌∷◌}
use Rattle.std.specs.Str.{bytes_eq}
use Rattle.layouts.specs.Bytes.{Bytes}
use Rattle.x509.specs.declared.certificate.Certificate.{Certificate}

-- The bytes of subject and issuer.
pub record Names : Type 0 where
  pub subject : Bytes
  pub issuer : Bytes

abbrev pub names_of : Certificate → Names
names_of c = record {
  subject = c.tbs_certificate.subject.bytes.now;
  issuer = c.tbs_certificate.issuer.bytes.now;
}

abbrev pub issued_by_first : Bytes → List Names → Bool
issued_by_first issuer [] = true
issued_by_first issuer (next ∷ others) = bytes_eq issuer next.subject

-- Each issuer is the subject of the next.
abbrev pub chain_in_order : List Names → Bool
chain_in_order [] = true
chain_in_order (names ∷ others) = issued_by_first names.issuer others && chain_in_order others
