use Rattle.std.proofs.Common.{◌≡◌, ◌++◌}
use Rattle.layouts.specs.Items.{items_in}
use Rattle.tls_ext.specs.InPlace.{extension_type}
use Rattle.tls_fingerprints.specs.Numbers.{without_grease}
use Rattle.tls_fingerprints.proofs.numbers.kept_types.Given as goal

abbrev pub invariant-loop-kind : goal.invariant-loop-kind
invariant-loop-kind l =
    (goal.iterator-loop-kind).can_next l.kind-iterator ×
    (goal.iterator-loop-kind).is_finite l.kind-iterator ×
    (l.kept.items ++ without_grease (items_in extension_type l.kind-iterator.bytes.now)
    ≡ without_grease (items_in extension_type l.fn.types.bytes.now))
