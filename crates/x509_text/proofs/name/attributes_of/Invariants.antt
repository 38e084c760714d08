use Rattle.std.proofs.Common.{◌≡◌, ◌++◌, map}
use Rattle.layouts.specs.Items.{items_in}
use Rattle.x509.specs.Name.{attribute, view_attribute}
use Rattle.x509_text.proofs.name.attributes_of.Given as goal

abbrev pub invariant-loop-attribute : goal.invariant-loop-attribute
invariant-loop-attribute l =
    (goal.iterator-loop-attribute).can_next l.attribute-iterator ×
    (goal.iterator-loop-attribute).is_finite l.attribute-iterator ×
    (map view_attribute l.attributes.items ++ items_in attribute l.attribute-iterator.bytes.now
    ≡ items_in attribute l.fn.set.bytes.now)
