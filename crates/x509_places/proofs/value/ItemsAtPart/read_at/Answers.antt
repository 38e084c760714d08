use Rattle.std.proofs.Common.{sym, subst}
use Rattle.x509_places.specs.Place.{Stands}
use Rattle.x509_places.proofs.LastLemmas.{all_before}
use Rattle.x509_places.proofs.value.ItemsAtPart.read_at.Goals as goal

pub returns-clause-places : goal.returns-clause-places
returns-clause-places g c = λ at.
    subst (λ y. Stands c.args.whole.now c.place_before-place.result y) (sym c.new-items.ensures)
    (c.place_before-place.ensures
    (all_before _ c.args.i.now _ c.in_ok-after.after.now at c.in_ok-after.ensures.allowed))
