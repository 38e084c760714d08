use Rattle.std.proofs.Common.{◌≡◌, ◌-◌, length, take, sym, subst}
use Rattle.layouts.specs.Meaning.{EndsWith}
use Rattle.layouts.proofs.PlaceLemmas.{ends_here, ends_read}
use Rattle.der.specs.Element.{tagged}
use Rattle.x509.specs.Certificate.{algorithm_identifier, tbs_certificate}
use Rattle.x509_places.proofs.LastLemmas.{rest_same}
use Rattle.x509_places.proofs.certificate.CertificateContentAtPart.read_at.Goals as goal

pub returns-clause-places : goal.returns-clause-places
returns-clause-places c = λ at.
    let i = c.args.i.now in
    let bytes = c.in_ok-bytes.bytes.now in
    let w = take (length c.args.whole.now - c.args.behind) c.args.whole.now in
    let same : i ≡ bytes = sym (rest_same i bytes _ c.in_ok-bytes.ensures.allowed) in
    let after = c.in_ok-after.after.now in
    let end : EndsWith i after =
    ends_read (tagged 0x30 tbs_certificate) i i _ after (ends_here i)
    c.in_ok-after.ensures.gives.allowed in
    let first : EndsWith w after =
    ends_read (tagged 0x30 tbs_certificate) w i _ after at c.in_ok-after.ensures.gives.allowed in
    let second : EndsWith w c.in_ok-after_algorithm.after_algorithm.now =
    ends_read algorithm_identifier w after _ c.in_ok-after_algorithm.after_algorithm.now first
    c.in_ok-after_algorithm.ensures.gives.allowed in
    record {
      signed_bytes = c.taken-signed.ensures.stands (subst (λ y. EndsWith w y) same at)
          (subst (λ y. EndsWith y after) same end);
      tbs_certificate = c.in_ok-after.ensures.places at;
      signature_algorithm = c.in_ok-after_algorithm.ensures.places first;
      signature_value = c.in_ok-rest.ensures.places second;
    }
