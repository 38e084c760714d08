use Rattle.std.proofs.Common.{◌≡◌, ◌++◌, map}
use Rattle.layouts.specs.Items.{items_in}
use Rattle.x509.specs.Name.{attribute, relative_distinguished_name}
use Rattle.x509_text.specs.Name.{with_attributes}
use Rattle.x509_text.proofs.name.sets_of.Given as goal

abbrev pub invariant-loop-set : goal.invariant-loop-set
invariant-loop-set l =
    (goal.iterator-loop-set).can_next l.set-iterator ×
    (goal.iterator-loop-set).is_finite l.set-iterator ×
    (map (λ s. items_in attribute s.bytes.now) l.sets.items
    ++ with_attributes (items_in relative_distinguished_name l.set-iterator.bytes.now)
    ≡ with_attributes (items_in relative_distinguished_name l.fn.name.bytes.now))
