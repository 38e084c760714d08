use Rattle.std.proofs.Common.{map, reverse}
use Rattle.layouts.specs.Items.{items_in}
use Rattle.x509.specs.Name.{attribute, view_attribute}
use Rattle.x509_text.specs.Name.{attribute_text}
use Rattle.x509_text.proofs.JoinLemmas.{join_begun, last_first}
use Rattle.x509_text.proofs.name.add_set.Goals as goal

pub loop-attribute-init : goal.loop-attribute-init
loop-attribute-init c =
    join_begun 43 attribute_text (view_attribute c.in-Some.last)
    (reverse (map view_attribute c.pop.new.self.items))
    (reverse (items_in attribute c.args.set.bytes.now)) _ _
    (last_first view_attribute c.in_ok-attributes.attributes.items c.pop.new.self.items
    (items_in attribute c.args.set.bytes.now) c.in-Some.last c.in_ok-attributes.ensures
    c.in-Some.ensures.items)
    c.in_ok-add_attribute.ensures
