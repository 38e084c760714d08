use Rattle.std.proofs.Common.{IfOk, ◌++◌, Option, sym, subst}
use Rattle.std.specs.Option.{option_map}
use Rattle.ocsp.specs.Response.{view_response_bytes}
use Rattle.ocsp.specs.declared.response.ResponseBytes.{ResponseBytes}
use Rattle.tls_json.specs.Responses.{some_answer}
use Rattle.tls_json.specs.Whole.{HasAll}
use Rattle.tls_json.proofs.responses.with_some_answer.Goals as goal

pub returns-in-Some : goal.returns-in-Some
returns-in-Some c = λ es h.
    let Of : Option ResponseBytes → Type 0 =
    λ a. IfOk c.with_answer.result.members
    (HasAll (es ++ some_answer (option_map view_response_bytes a))) in
    subst Of (sym c.in-Some.is) (c.with_answer.ensures es h)
