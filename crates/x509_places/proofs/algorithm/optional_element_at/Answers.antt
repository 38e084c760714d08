use Rattle.der.specs.Element.{view_element}
use Rattle.x509_places.proofs.LastLemmas.{element_before}
use Rattle.x509_places.proofs.algorithm.optional_element_at.Goals as goal

pub returns-clause-places : goal.returns-clause-places
returns-clause-places c = λ at.
    c.place_before-place.ensures
    (element_before _ c.args.i.now (view_element c.in_ok-rest.x) c.in_ok-rest.rest.now at
    c.in_ok-rest.ensures.allowed)
