use Rattle.std.proofs.Common.{◌≡◌}
use Rattle.layouts.specs.Items.{items_in}
use Rattle.tls_key_exchange.specs.Timestamp.{serialized_timestamp}
use Rattle.tls_summary.specs.Hellos.{count_behind}
use Rattle.tls_summary.proofs.hellos.count.Given as goal

abbrev pub invariant-loop-timestamp : goal.invariant-loop-timestamp
invariant-loop-timestamp l =
    (goal.iterator-loop-timestamp).can_next l.timestamp-iterator ×
    (goal.iterator-loop-timestamp).is_finite l.timestamp-iterator ×
    (count_behind 0 (items_in serialized_timestamp l.fn.timestamps.bytes.now)
    ≡ count_behind l.count (items_in serialized_timestamp l.timestamp-iterator.bytes.now))
