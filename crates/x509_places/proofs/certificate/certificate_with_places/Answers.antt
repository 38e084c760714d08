use Rattle.x509_places.proofs.PlaceLemmas.{whole_before}
use Rattle.x509_places.proofs.certificate.certificate_with_places.Goals as goal

pub returns-clause-places : goal.returns-clause-places
returns-clause-places c = c.tagged_at.ensures.places (whole_before c.args.whole.now)
