use Rattle.x509_places.proofs.NameLemmas.{name_stands}
use Rattle.x509_places.proofs.name.name_at.Goals as goal

pub returns-clause-places : goal.returns-clause-places
returns-clause-places c = λ at.
    name_stands c.args.whole.now c.args.behind c.args.i.now c.in_ok-rest.rest.now
    c.taken-element.result.0.now _
    c.taken-element.result.1 c.taken-element.ensures.is c.taken-element.ensures.stands at
    c.in_ok-rest.ensures.allowed
