use Rattle.std.proofs.Common.{◌≡◌, ◌++◌, map}
use Rattle.std.specs.String.{string_bytes}
use Rattle.layouts.specs.Items.{items_in}
use Rattle.x509.specs.GeneralName.{general_name}
use Rattle.log_certificates.specs.Values.{texts_of_kind}
use Rattle.log_certificates.proofs.extensions.texts_of.Given as goal

abbrev pub invariant-loop-name : goal.invariant-loop-name
invariant-loop-name l =
    (goal.iterator-loop-name).can_next l.name-iterator ×
    (goal.iterator-loop-name).is_finite l.name-iterator ×
    (map string_bytes l.all.items
    ++ texts_of_kind l.tag (items_in general_name l.name-iterator.bytes.now)
    ≡ texts_of_kind l.tag (items_in general_name l.fn.names.bytes.now))
