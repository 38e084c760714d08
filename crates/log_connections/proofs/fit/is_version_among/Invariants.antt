use Rattle.std.proofs.Common.{◌≡◌}
use Rattle.layouts.specs.Items.{items_in}
use Rattle.layouts.specs.Layout.{number}
use Rattle.log_connections.specs.Fit.{is_among}
use Rattle.log_connections.proofs.fit.is_version_among.Given as goal

abbrev pub invariant-loop-other : goal.invariant-loop-other
invariant-loop-other l =
    (goal.iterator-loop-other).can_next l.other-iterator ×
    (goal.iterator-loop-other).is_finite l.other-iterator ×
    (is_among l.fn.version.0 (items_in (number 2) l.fn.versions.bytes.now)
    ≡ is_among l.fn.version.0 (items_in (number 2) l.other-iterator.bytes.now))
