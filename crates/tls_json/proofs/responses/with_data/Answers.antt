use Rattle.std.proofs.Common.{IfOk, ◌++◌, [], ◌∷◌, ℤ, codes, map, rules, subst, w64, SFits}
use Rattle.std.proofs.lemmas.Int.{to_z-of_z}
use Rattle.std.proofs.lemmas.List.{append_assoc}
use Rattle.layouts.specs.Items.{items_in}
use Rattle.ocsp.specs.Single.{single_response}
use Rattle.tls_json.specs.Outline.{Entries}
use Rattle.tls_json.specs.Responses.{single_data}
use Rattle.tls_json.specs.Whole.{HasAll, whole, list_of}
use Rattle.tls_json.proofs.responses.with_data.Goals as goal

pub returns : goal.returns
returns c = λ es h.
    let given = c.args.signed.now in
    let seconds = given.produced_at in
    let fits : SFits w64 seconds = search rules in
    let time : ℤ → Entries = λ z. whole (codes "producedAt") z ∷ [] in
    let Dated : ℤ → Type 0 = λ z. IfOk c.whole.result.members (HasAll (es ++ time z)) in
    let dated = subst Dated (to_z-of_z w64 seconds fits) (c.whole.ensures es h) in
    let answers = list_of (codes "responses")
    (map single_data (items_in single_response given.responses.bytes.now)) ∷ [] in
    let Has : Entries → Type 0 = λ xs. IfOk c.add.result.members (HasAll xs) in
    subst Has (append_assoc es (time seconds) answers)
    (c.add.ensures (es ++ time seconds) _ dated c.singles.ensures)
