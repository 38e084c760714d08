use Rattle.x509_places.proofs.PlaceLemmas.{stands_there}
use Rattle.x509_places.proofs.place.place_before.Goals as goal

pub returns : goal.returns
returns c = λ at.
    stands_there c.args.whole.now c.args.behind c.saturating_sub-end.result
    c.saturating_sub-after.result
    c.saturating_sub-offset.result c.args.part.now c.args.rest.now c.saturating_sub-end.ensures
    c.saturating_sub-after.ensures c.saturating_sub-offset.ensures at
