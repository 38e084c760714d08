-- The places of a certificate's fields.
use Rattle.std.specs.Option.{option_map}
use Rattle.layouts.specs.Bytes.{Bytes}
use Rattle.layouts.specs.Items.{items_in}
use Rattle.x509.specs.Name.{relative_distinguished_name}
use Rattle.x509.specs.declared.algorithm.AlgorithmIdentifier.{AlgorithmIdentifier}
use Rattle.x509.specs.declared.algorithm.SubjectPublicKeyInfo.{SubjectPublicKeyInfo}
use Rattle.x509.specs.declared.tbs.TBSCertificate.{TBSCertificate}
use Rattle.x509.specs.declared.certificate.Certificate.{Certificate}
use Rattle.x509_places.specs.Place.{Stands, MayStand, NameStands}
use Rattle.x509_places.specs.declared.algorithm.AlgorithmPlaces.{AlgorithmPlaces}
use Rattle.x509_places.specs.declared.algorithm.KeyPlaces.{KeyPlaces}
use Rattle.x509_places.specs.declared.tbs.TBSPlaces.{TBSPlaces}
use Rattle.x509_places.specs.declared.certificate.CertificatePlaces.{CertificatePlaces}

-- The object identifier and the parameters' content are at their places.
pub record AlgorithmStands (b : Bytes) (a : AlgorithmIdentifier)
    (p : AlgorithmPlaces) : Type 0 where
  pub algorithm : Stands b p.algorithm a.algorithm.content.now
  pub parameters : MayStand b p.parameters (option_map (λ e. e.content.now) a.parameters)

-- The parts of the key's algorithm and the key are at their places.
pub record KeyStands (b : Bytes) (k : SubjectPublicKeyInfo) (p : KeyPlaces) : Type 0 where
  pub algorithm : AlgorithmStands b k.algorithm p.algorithm
  pub key : Stands b p.key k.subject_public_key.bytes.now

-- Each field of the signed part is at its place.
pub record TBSStands (b : Bytes) (t : TBSCertificate) (p : TBSPlaces) : Type 0 where
  pub serial_number : Stands b p.serial_number t.serial_number.now
  pub issuer : NameStands b p.issuer (items_in relative_distinguished_name t.issuer.bytes.now)
  pub subject : NameStands b p.subject (items_in relative_distinguished_name t.subject.bytes.now)
  pub key : KeyStands b t.subject_public_key_info p.key
  pub extensions : Stands b p.extensions t.extensions.bytes.now

-- Each field of the certificate is at its place.
pub record CertificateStands (b : Bytes) (c : Certificate) (p : CertificatePlaces) : Type 0 where
  pub signed_bytes : Stands b p.signed_bytes c.signed_bytes.now
  pub tbs_certificate : TBSStands b c.tbs_certificate p.tbs_certificate
  pub signature_algorithm : AlgorithmStands b c.signature_algorithm p.signature_algorithm
  pub signature_value : Stands b p.signature_value c.signature_value.bytes.now
