use Rattle.std.proofs.Common.{[], ◌∷◌, ◌++◌, List, ℕ, Option, Bor, codes, sym, subst}
use Rattle.std.proofs.lemmas.List.{append_assoc}
use Rattle.serde_json.specs.Data.{array, no_items}
use Rattle.tls_json.specs.Outline.{Entries, HasFields, list, some_bytes}
use Rattle.tls_json.specs.Tables.{extensions_fields}
use Rattle.tls_json.proofs.extension.with_extensions.Goals as goal

pub returns-in-Some : goal.returns-in-Some
returns-in-Some c = λ es h.
    let Has : Entries → Type 0 = λ xs. HasFields xs c.some_bytes.result in
    let Rest : List ℕ → Type 0 =
    λ b. Has (es ++ (list (codes "extensions") ∷ some_bytes (codes "rest") b)) in
    let listed = c.add.ensures.fields es (array no_items) h c.list.ensures in
    let all : Rest c.rest.result.now =
    subst Has (append_assoc es (list (codes "extensions") ∷ [])
    (some_bytes (codes "rest") c.rest.result.now))
    (c.some_bytes.ensures (es ++ list (codes "extensions") ∷ []) listed) in
    let Of : Option (Bor (List ℕ)) → Type 0 = λ ext. Has (es ++ extensions_fields ext) in
    subst Of (sym c.in-Some.is) (subst Rest c.rest.ensures all)
