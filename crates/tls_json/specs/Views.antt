-- The data that a value stands for.
use Rattle.std.specs.Prelude.{List, [], ◌∷◌, map, string_bytes, ℕ}
use Rattle.std.specs.Borrow.{Bor}
use Rattle.serde_json.specs.Data.{Data, boolean, number, unsigned, negative, string, array, object, Items, no_items, item, Members, no_members, member}
use Rattle.tls_json.specs.declared.json.Value.{Value, fold-Value}
use Rattle.tls_json.specs.declared.json.Value.TheOpen.{Value-F}

abbrev pub items_of : List Data → Items
items_of [] = no_items
items_of (d ∷ ds) = item d (items_of ds)

abbrev pub members_of : List (Bor (List ℕ) × Data) → Members
members_of [] = no_members
members_of (m ∷ ms) = member m.0.now m.1 (members_of ms)

-- one level, in which each inner value is data already
abbrev pub view_step : Value-F Data → Data
view_step (Value-F.Number n) = number (unsigned n)
view_step (Value-F.Whole z) = number (negative z)
view_step (Value-F.Boolean b) = boolean b
view_step (Value-F.Name s) = string s.now
view_step (Value-F.Text s) = string (string_bytes s)
view_step (Value-F.List v) = array (items_of v.items)
view_step (Value-F.Object v) = object (members_of v.items)

abbrev pub view : Value → Data
view = fold-Value Data view_step

abbrev pub items_view : List Value → Items
items_view vs = items_of (map view vs)

abbrev pub members_view : List (Bor (List ℕ) × Value) → Members
members_view ms = members_of (map (λ m. (m.0, view m.1)) ms)
