use Rattle.std.proofs.Common.{◌≡◌, ◌++◌, map, reverse, length}
use Rattle.std.specs.String.{string_bytes}
use Rattle.layouts.specs.Items.{items_in}
use Rattle.x509.specs.Name.{attribute, relative_distinguished_name}
use Rattle.x509_text.specs.Name.{name_text, set_text}
use Rattle.x509_text.proofs.JoinLemmas.{behind}
use Rattle.x509_text.proofs.name.name_text.Given as goal

abbrev pub invariant-loop-set : goal.invariant-loop-set
invariant-loop-set l =
    string_bytes l.text ++ behind 44 set_text
    (reverse (map (λ s. items_in attribute s.bytes.now) l.sets.items))
    ≡ name_text (items_in relative_distinguished_name l.fn.name.bytes.now)

abbrev pub decreases-loop-set : goal.decreases-loop-set
decreases-loop-set l = length l.sets.items
