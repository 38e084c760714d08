use Rattle.std.proofs.Common.{IfOk, [], ◌∷◌, codes, subst}
use Rattle.std.proofs.lemmas.List.{append_assoc}
use Rattle.ocsp.specs.Response.{view_response_bytes}
use Rattle.x509_text.specs.ObjectText.{object_text}
use Rattle.tls_json.specs.Outline.{Entries}
use Rattle.tls_json.specs.Responses.{answered_entries}
use Rattle.tls_json.specs.Whole.{HasAll, text}
use Rattle.tls_json.proofs.responses.with_answer.Goals as goal

pub returns : goal.returns
returns c = λ es h.
    let Has : Entries → Type 0 = λ xs. IfOk c.with_answered.result.members (HasAll xs) in
    let kind = text (codes "responseType")
    (object_text c.args.answer.now.response_type.content.now) in
    subst Has
    (append_assoc es (kind ∷ []) (answered_entries (view_response_bytes c.args.answer.now)))
    (c.with_answered.ensures _ (c.text-typed.ensures es _ h c.object_text.ensures))
