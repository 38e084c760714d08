use Rattle.std.proofs.Common.{◌≡◌, ◌++◌, map, reverse, length}
use Rattle.std.specs.String.{string_bytes}
use Rattle.layouts.specs.Items.{items_in}
use Rattle.x509.specs.Name.{attribute, view_attribute}
use Rattle.x509_text.specs.Name.{attribute_text, set_text}
use Rattle.x509_text.proofs.JoinLemmas.{behind}
use Rattle.x509_text.proofs.name.add_set.Given as goal

abbrev pub invariant-loop-attribute : goal.invariant-loop-attribute
invariant-loop-attribute l =
    string_bytes l.text ++ behind 43 attribute_text
    (reverse (map view_attribute l.attributes.items))
    ≡ string_bytes l.fn.text ++ set_text (items_in attribute l.fn.set.bytes.now)

abbrev pub decreases-loop-attribute : goal.decreases-loop-attribute
decreases-loop-attribute l = length l.attributes.items
