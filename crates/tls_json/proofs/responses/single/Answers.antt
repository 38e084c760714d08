use Rattle.std.proofs.Common.{IfOk, ◌++◌, [], ◌∷◌, List, ℕ, ℤ, codes, rules, subst, w64, SFits}
use Rattle.std.proofs.lemmas.Int.{to_z-of_z}
use Rattle.x509_text.specs.Number.{serial_number_text}
use Rattle.tls_json.specs.Outline.{Entries, object_of}
use Rattle.tls_json.specs.Responses.{revocation_entries}
use Rattle.tls_json.specs.Whole.{HasAll, Is, text, whole, some_whole}
use Rattle.tls_json.proofs.responses.single.Goals as goal

pub returns : goal.returns
returns c =
    let response = c.args.response.now in
    let seconds = response.this_update in
    let front : List ℕ → Entries = λ status.
    text (codes "serialNumber") (serial_number_text response.cert_id.serial_number.now)
    ∷ text (codes "certStatus") status
    ∷ revocation_entries response.cert_status in
    let said = c.cert_status_name.result.now in
    let numbered = c.text.ensures [] _ c.new.ensures c.serial_number_text-serial_number.ensures in
    let revoked = c.with_revocation.ensures _ (c.name-front.ensures _ numbered) in
    let fits : SFits w64 seconds = search rules in
    let Updated : ℤ → Type 0 = λ z. IfOk c.whole.result.members
    (HasAll (front said ++ whole (codes "thisUpdate") z ∷ [])) in
    let updated = subst Updated (to_z-of_z w64 seconds fits) (c.whole.ensures _ revoked) in
    let dated = c.some_whole.ensures _ updated in
    let IsOf : List ℕ → Type 0 = λ status. IfOk c.finish.result (Is (object_of (
    front status
    ++ whole (codes "thisUpdate") seconds ∷ []
    ++ some_whole (codes "nextUpdate") response.next_update))) in
    subst IsOf c.cert_status_name.ensures (c.finish.ensures _ dated)
