use Rattle.std.proofs.Common.{◌≡◌, ◌++◌, map}
use Rattle.layouts.specs.Items.{items_in}
use Rattle.tls_ext.specs.Content.{server_name}
use Rattle.tls_ext.specs.Extension.{view_server_name}
use Rattle.tls_summary.specs.Hellos.{others_among}
use Rattle.tls_summary.proofs.hellos.other_names.Given as goal

abbrev pub invariant-loop-kind : goal.invariant-loop-kind
invariant-loop-kind l =
    (goal.iterator-loop-kind).can_next l.kind-iterator ×
    (goal.iterator-loop-kind).is_finite l.kind-iterator ×
    (map view_server_name l.others.items ++ others_among
    (items_in server_name l.kind-iterator.bytes.now)
    ≡ others_among (items_in server_name l.fn.names.bytes.now))
