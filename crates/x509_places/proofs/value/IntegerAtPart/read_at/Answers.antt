use Rattle.x509_places.proofs.LastLemmas.{integer_before}
use Rattle.x509_places.proofs.value.IntegerAtPart.read_at.Goals as goal

pub returns-clause-places : goal.returns-clause-places
returns-clause-places c = λ at.
    c.place_before-place.ensures
    (integer_before _ c.args.i.now c.in_ok-rest.x.now c.in_ok-rest.rest.now at
    c.in_ok-rest.ensures.allowed)
