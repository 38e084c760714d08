use Rattle.std.proofs.Common.{◌≡◌}
use Rattle.layouts.specs.Items.{items_in}
use Rattle.ocsp.specs.Single.{response_for, single_response}
use Rattle.ocsp.proofs.single.response_for.Given as goal

abbrev pub invariant-loop-response : goal.invariant-loop-response
invariant-loop-response l =
    (goal.iterator-loop-response).can_next l.response-iterator ×
    (goal.iterator-loop-response).is_finite l.response-iterator ×
    (response_for l.serial_number (items_in single_response l.fn.responses.bytes.now)
    ≡ response_for l.serial_number (items_in single_response l.response-iterator.bytes.now))
