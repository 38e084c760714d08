use Rattle.std.proofs.Common.{◌≡◌}
use Rattle.std.specs.Option.{option_map}
use Rattle.layouts.specs.Items.{items_in}
use Rattle.layouts.specs.Layout.{number}
use Rattle.tls_ext.specs.InPlace.{latest}
use Rattle.tls_ext.proofs.VersionLemmas.{with_known}
use Rattle.tls_ext.proofs.hello_extensions.latest_version.Given as goal

abbrev pub invariant-loop-version : goal.invariant-loop-version
invariant-loop-version l =
    (goal.iterator-loop-version).can_next l.version-iterator ×
    (goal.iterator-loop-version).is_finite l.version-iterator ×
    (latest (items_in (number 2) l.fn.versions.bytes.now)
    ≡ with_known (option_map (λ v. v.0) l.best)
    (latest (items_in (number 2) l.version-iterator.bytes.now)))
