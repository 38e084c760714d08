use Rattle.std.proofs.Common.{IfOk, ◌++◌, [], ◌∷◌, codes, subst}
use Rattle.std.proofs.lemmas.List.{append_assoc}
use Rattle.ocsp.specs.Response.{view_data}
use Rattle.x509_text.specs.ObjectText.{object_text}
use Rattle.tls_json.specs.Outline.{Entries}
use Rattle.tls_json.specs.Responses.{data_entries}
use Rattle.tls_json.specs.Whole.{HasAll, text}
use Rattle.tls_json.proofs.responses.with_basic.Goals as goal

pub returns : goal.returns
returns c = λ es h.
    let basic = c.args.basic.now in
    let algorithm = text (codes "signatureAlgorithm")
    (object_text basic.signature_algorithm.algorithm.content.now) in
    let Has : Entries → Type 0 = λ xs. IfOk c.text.result.members (HasAll xs) in
    subst Has (append_assoc es (data_entries (view_data basic.tbs_response_data)) (algorithm ∷ []))
    (c.text.ensures _ _ (c.with_data.ensures es h) c.object_text.ensures)
