use Rattle.std.proofs.Common.{◌≡◌, ◌++◌}
use Rattle.layouts.specs.Items.{items_in}
use Rattle.layouts.specs.Layout.{number}
use Rattle.tls_fingerprints.specs.Numbers.{without_grease}
use Rattle.tls_fingerprints.proofs.numbers.kept.Given as goal

abbrev pub invariant-loop-n : goal.invariant-loop-n
invariant-loop-n l =
    (goal.iterator-loop-n).can_next l.n-iterator ×
    (goal.iterator-loop-n).is_finite l.n-iterator ×
    (l.kept.items ++ without_grease (items_in (number 2) l.n-iterator.bytes.now)
    ≡ without_grease (items_in (number 2) l.fn.numbers.bytes.now))
