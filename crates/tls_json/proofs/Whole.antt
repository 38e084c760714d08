-- Values with what is in their lists.
use Rattle.std.proofs.Common.{◌≡◌, ℕ, List, [], ◌∷◌, map, refl, ap, ◌∙◌, Vec, Global, rules}
use Rattle.std.specs.Borrow.{Bor}
use Rattle.serde_json.specs.Data.{array, object, member}
use Rattle.tls_json.specs.Views.{view, items_of, members_view}
use Rattle.tls_json.specs.Outline.{members, object_of}
use Rattle.tls_json.specs.Whole.{whole_entries}
use Rattle.tls_json.specs.declared.json.Value.{Value, List as ListOf, Object, the_lemmas}

view_object : (v : Vec (Bor (List ℕ) × Value) Global)
    → view (Object v) ≡ object (members_view v.items)
view_object v = search (rules, the_lemmas)

members_whole : (ms : List (Bor (List ℕ) × Value)) → members_view ms ≡ members (whole_entries ms)
members_whole [] = refl
members_whole (m ∷ ms) = ap (λ xs. member m.0.now (view m.1) xs) (members_whole ms)

-- The object of an object's members.
pub whole_object : (v : Vec (Bor (List ℕ) × Value) Global)
    → view (Object v) ≡ object_of (whole_entries v.items)
whole_object v = view_object v ∙ ap (λ ms. object ms) (members_whole v.items)

-- The array of a list's items.
pub whole_list : (v : Vec Value Global) → view (ListOf v) ≡ array (items_of (map view v.items))
whole_list v = search (rules, the_lemmas)
