use Rattle.std.proofs.Common.{◌≡◌}
use Rattle.layouts.specs.Items.{items_in}
use Rattle.tls_ext.specs.Content.{server_name}
use Rattle.tls_summary.specs.Hellos.{host_among}
use Rattle.tls_summary.proofs.hellos.host_name.Given as goal

abbrev pub invariant-loop-kind : goal.invariant-loop-kind
invariant-loop-kind l =
    (goal.iterator-loop-kind).can_next l.kind-iterator ×
    (goal.iterator-loop-kind).is_finite l.kind-iterator ×
    (host_among (items_in server_name l.fn.names.bytes.now)
    ≡ host_among (items_in server_name l.kind-iterator.bytes.now))
