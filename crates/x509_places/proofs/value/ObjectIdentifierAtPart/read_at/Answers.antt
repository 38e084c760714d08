use Rattle.x509_places.proofs.LastLemmas.{object_identifier_before}
use Rattle.x509_places.proofs.value.ObjectIdentifierAtPart.read_at.Goals as goal

pub returns-clause-places : goal.returns-clause-places
returns-clause-places c = λ at.
    c.place_before-place.ensures
    (object_identifier_before _ c.args.i.now c.in_ok-rest.x.content.now c.in_ok-rest.rest.now at
    c.in_ok-rest.ensures.allowed)
