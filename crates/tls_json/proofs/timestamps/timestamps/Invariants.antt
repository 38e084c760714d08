use Rattle.std.proofs.Common.{◌≡◌, ◌++◌, map}
use Rattle.layouts.specs.Items.{items_in}
use Rattle.tls_key_exchange.specs.Timestamp.{serialized_timestamp}
use Rattle.tls_json.specs.Views.{view}
use Rattle.tls_json.specs.Timestamps.{timestamp_data}
use Rattle.tls_json.proofs.timestamps.timestamps.Given as goal

abbrev pub invariant-loop-signed : goal.invariant-loop-signed
invariant-loop-signed l =
    (goal.iterator-loop-signed).can_next l.signed-iterator ×
    (goal.iterator-loop-signed).is_finite l.signed-iterator ×
    (map view l.all.items
    ++ map timestamp_data (items_in serialized_timestamp l.signed-iterator.bytes.now)
    ≡ map timestamp_data (items_in serialized_timestamp l.fn.bytes))
