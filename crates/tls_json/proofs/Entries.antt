-- Fields in their order.
use Rattle.std.proofs.Common.{◌≡◌, ℕ, List, [], ◌∷◌, refl, ap, ◌∙◌, Vec, Global, Ok, Err, IfOk, rules}
use Rattle.std.specs.Borrow.{Bor}
use Rattle.serde_json.specs.Data.{Data, null, object, member}
use Rattle.tls_json.specs.Views.{view, members_view}
use Rattle.tls_json.specs.Outline.{
  outline,
  outlines,
  Entries,
  entries,
  entry_names,
  members,
  member_names,
  names,
  object_of,
  Made,
  Shows,
  HasNames,
}
use Rattle.tls_json.specs.declared.json.Value.{Value, Object, the_lemmas}

view_object : (v : Vec (Bor (List ℕ) × Value) Global)
    → view (Object v) ≡ object (members_view v.items)
view_object v = search (rules, the_lemmas)

outlines_fields : (fs : List (Bor (List ℕ) × Value))
    → outlines (members_view fs) ≡ members (entries fs)
outlines_fields [] = refl
outlines_fields (f ∷ fs) = ap (λ ms. member f.0.now (outline (view f.1)) ms) (outlines_fields fs)

-- The object of a table's fields.
pub outline_object : (v : Vec (Bor (List ℕ) × Value) Global)
    → outline (view (Object v)) ≡ object_of (entries v.items)
outline_object v = ap (λ d. outline d) (view_object v)
    ∙ ap (λ ms. object ms) (outlines_fields v.items)

names_members : (es : Entries) → member_names (members es) ≡ entry_names es
names_members [] = refl
names_members (e ∷ es) = ap (λ ns. e.0 ∷ ns) (names_members es)

pub names_object : (v : Vec (Bor (List ℕ) × Value) Global)
    → names (outline (view (Object v))) ≡ entry_names (entries v.items)
names_object v = ap (λ d. names d) (outline_object v) ∙ names_members (entries v.items)

-- What a value shows, if there is one.
abbrev pub data_of : Made → Data
data_of (Ok v) = outline (view v)
data_of (Err e) = null

pub shows_itself : (r : Made) → IfOk r (Shows (data_of r))
shows_itself (Ok v) = refl
shows_itself (Err e) = tt

-- Fields have their names.
pub names_shown : (r : Made) (es : Entries) → IfOk r (Shows (object_of es))
    → IfOk r (HasNames (entry_names es))
names_shown (Ok v) es h = ap (λ d. names d) h ∙ names_members es
names_shown (Err e) es h = tt
