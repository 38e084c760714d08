use Rattle.x509_places.proofs.PlaceLemmas.{before_part}
use Rattle.x509_places.proofs.place.behind_part.Goals as goal

pub returns : goal.returns
returns c = λ x at.
    before_part c.args.whole.now c.args.behind c.saturating_sub-end.result
    c.saturating_sub-after.result
    c.saturating_sub.result x c.args.rest.now c.saturating_sub-end.ensures
    c.saturating_sub-after.ensures
    c.saturating_sub.ensures at
