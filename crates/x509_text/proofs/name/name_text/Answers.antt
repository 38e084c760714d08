use Rattle.std.proofs.Common.{[], ◌++◌, ◌∙◌, ap, map, reverse}
use Rattle.layouts.specs.Items.{items_in}
use Rattle.x509.specs.Name.{attribute, relative_distinguished_name}
use Rattle.x509_text.specs.Name.{set_text, with_attributes}
use Rattle.x509_text.proofs.JoinLemmas.{join_begun, last_first}
use Rattle.x509_text.proofs.name.name_text.Goals as goal

pub loop-set-init : goal.loop-set-init
loop-set-init c =
    let sets = with_attributes (items_in relative_distinguished_name c.args.name.bytes.now) in
    join_begun 44 set_text (items_in attribute c.in-Some.last.bytes.now)
    (reverse (map (λ s. items_in attribute s.bytes.now) c.pop.new.self.items)) (reverse sets) [] _
    (last_first (λ s. items_in attribute s.bytes.now) c.in_ok-sets.sets.items c.pop.new.self.items
    sets c.in-Some.last
    c.in_ok-sets.ensures c.in-Some.ensures.items)
    (c.in_ok-add_set.ensures ∙ ap (λ t. t ++ set_text (items_in attribute c.in-Some.last.bytes.now))
    c.new-text.ensures.bytes)
