use Rattle.std.proofs.Common.{◌≡◌}
use Rattle.layouts.specs.Items.{items_in}
use Rattle.x509.specs.GeneralName.{general_name}
use Rattle.x509_text.specs.Host.{labels, names_host}
use Rattle.x509_text.proofs.host.any_covers.Given as goal

abbrev pub invariant-loop-name : goal.invariant-loop-name
invariant-loop-name l =
    (goal.iterator-loop-name).can_next l.name-iterator ×
    (goal.iterator-loop-name).is_finite l.name-iterator ×
    (names_host (labels l.host) (items_in general_name l.name-iterator.bytes.now)
    ≡ names_host (labels l.host) (items_in general_name l.fn.names.bytes.now))
