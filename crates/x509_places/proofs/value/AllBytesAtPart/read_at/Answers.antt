use Rattle.x509_places.proofs.LastLemmas.{rest_before}
use Rattle.x509_places.proofs.value.AllBytesAtPart.read_at.Goals as goal

pub returns-clause-places : goal.returns-clause-places
returns-clause-places c = λ at.
    c.place_before-place.ensures
    (rest_before _ c.args.i.now c.in_ok-after.x.now c.in_ok-after.after.now at
    c.in_ok-after.ensures.allowed)
