use Rattle.std.proofs.Common.{IfOk, ◌++◌, [], ◌∷◌, ℤ, codes, rules, subst, w64, SFits}
use Rattle.std.proofs.lemmas.Int.{to_z-of_z}
use Rattle.std.proofs.lemmas.List.{append_assoc}
use Rattle.tls_json.specs.Outline.{Entries}
use Rattle.tls_json.specs.Responses.{reason_entries}
use Rattle.tls_json.specs.Whole.{HasAll, whole}
use Rattle.tls_json.proofs.responses.with_revoked.Goals as goal

pub returns : goal.returns
returns c = λ es h.
    let seconds = c.args.info.revocation_time in
    let reason = reason_entries c.args.info.revocation_reason in
    let fits : SFits w64 seconds = search rules in
    let time : ℤ → Entries = λ z. whole (codes "revocationTime") z ∷ [] in
    let Dated : ℤ → Type 0 = λ z. IfOk c.whole-dated.result.members (HasAll (es ++ time z)) in
    let dated = subst Dated (to_z-of_z w64 seconds fits) (c.whole-dated.ensures es h) in
    let Has : Entries → Type 0 = λ xs. IfOk c.with_reason.result.members (HasAll xs) in
    subst Has (append_assoc es (time seconds) reason)
    (c.with_reason.ensures (es ++ time seconds) dated)
