use Rattle.std.proofs.Common.{◌≡◌, flat_map, map, take}
use Rattle.std.specs.String.{string_bytes}
use Rattle.log_fields.specs.Values.{reason_if}
use Rattle.log_fields.proofs.connection.reason_names.Given as goal

abbrev pub invariant-loop-reason : goal.invariant-loop-reason
invariant-loop-reason l =
    map string_bytes l.reasons.items ≡ flat_map (reason_if l.dropped) (take l.reason-index l.order)
