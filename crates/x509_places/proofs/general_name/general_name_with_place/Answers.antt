use Rattle.std.proofs.Common.{subst}
use Rattle.x509_places.specs.Place.{Stands}
use Rattle.x509_places.proofs.LastLemmas.{general_name_before}
use Rattle.x509_places.proofs.general_name.general_name_with_place.Goals as goal

pub returns-clause-places : goal.returns-clause-places
returns-clause-places c = λ at.
    subst (λ y. Stands c.args.whole.now c.place_before-place.result y) c.content_of-content.ensures
    (c.place_before-place.ensures
    (general_name_before c.args.whole.now c.args.i.now c.content_of-content.result.now
    c.in_ok-rest.x
    c.in_ok-rest.rest.now c.content_of-content.ensures at c.in_ok-rest.ensures.allowed))
