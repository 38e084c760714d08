use Rattle.layouts.proofs.PlaceLemmas.{ends_read}
use Rattle.tls_places.proofs.PlaceLemmas.{frame_stands}
use Rattle.tls_places.proofs.frame.frame_at.Goals as goal

pub returns-clause-stands : goal.returns-clause-stands
returns-clause-stands g c = λ at.
    frame_stands c.args.whole.now c.args.i.now
    (g.T.ContentItem.content c.in_ok-rest.item) c.content.result.now c.in_ok-rest.rest.now
    c.place_before-place.result c.content.ensures.is c.place_before-place.ensures at
    (c.content.ensures.last c.args.i.now c.in_ok-rest.rest.now c.in_ok-rest.ensures.allowed)

pub returns-clause-ends : goal.returns-clause-ends
returns-clause-ends g c = λ at.
    ends_read g.T.InPlace.layout c.args.whole.now c.args.i.now _ c.in_ok-rest.rest.now at
    c.in_ok-rest.ensures.allowed
