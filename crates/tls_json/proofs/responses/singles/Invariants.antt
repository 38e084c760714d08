use Rattle.std.proofs.Common.{◌≡◌, ◌++◌, map}
use Rattle.layouts.specs.Items.{items_in}
use Rattle.ocsp.specs.Single.{single_response}
use Rattle.tls_json.specs.Views.{view}
use Rattle.tls_json.specs.Responses.{single_data}
use Rattle.tls_json.proofs.responses.singles.Given as goal

abbrev pub invariant-loop-response : goal.invariant-loop-response
invariant-loop-response l =
    (goal.iterator-loop-response).can_next l.response-iterator ×
    (goal.iterator-loop-response).is_finite l.response-iterator ×
    (map view l.all.items
    ++ map single_data (items_in single_response l.response-iterator.bytes.now)
    ≡ map single_data (items_in single_response l.fn.list.bytes.now))
