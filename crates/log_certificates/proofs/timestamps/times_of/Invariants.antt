use Rattle.std.proofs.Common.{◌≡◌, ◌++◌}
use Rattle.layouts.specs.Items.{items_in}
use Rattle.tls_key_exchange.specs.Timestamp.{serialized_timestamp}
use Rattle.log_certificates.specs.Timestamps.{times_in}
use Rattle.log_certificates.proofs.timestamps.times_of.Given as goal

abbrev pub invariant-loop-timestamp : goal.invariant-loop-timestamp
invariant-loop-timestamp l =
    (goal.iterator-loop-timestamp).can_next l.timestamp-iterator ×
    (goal.iterator-loop-timestamp).is_finite l.timestamp-iterator ×
    (l.all.items ++ times_in (items_in serialized_timestamp l.timestamp-iterator.bytes.now)
    ≡ times_in (items_in serialized_timestamp l.fn.timestamps.bytes.now))
