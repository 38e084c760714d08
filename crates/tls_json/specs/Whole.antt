-- Values with what is in their lists, which an outline leaves out.
use Rattle.std.specs.Prelude.{◌≡◌, ℕ, ℤ, List, [], ◌∷◌, map, Option, Some, None, IfOk, Vec, ⊤}
use Rattle.std.specs.Borrow.{Bor}
use Rattle.std.specs.declared.alloc.Global.{Global}
use Rattle.hex.specs.Hex.{encode_lower}
use Rattle.serde_json.specs.Data.{Data, number, unsigned, negative, string, array}
use Rattle.tls_json.specs.Views.{view, items_of}
use Rattle.tls_json.specs.Outline.{Entries, Made}
use Rattle.tls_json.specs.declared.json.Value.{Value}
use Rattle.tls_json.specs.declared.object.ObjectBuilder.{ObjectBuilder}

abbrev pub Is : Data → Value → Type 0
Is d v = view v ≡ d

-- Members with all of their data.
abbrev pub whole_entries : List (Bor (List ℕ) × Value) → Entries
whole_entries = map (λ m. (m.0.now, view m.1))

abbrev pub HasAll : Entries → Vec (Bor (List ℕ) × Value) Global → Type 0
HasAll es members = whole_entries members.items ≡ es

-- The object has these members, if memory sufficed.
abbrev pub HasMembers : Entries → ObjectBuilder → Type 0
HasMembers es o = IfOk o.members (HasAll es)

-- The members of each form.
abbrev pub text : List ℕ → List ℕ → List ℕ × Data
text name s = (name, string s)

abbrev pub whole : List ℕ → ℤ → List ℕ × Data
whole name z = (name, number (negative z))

abbrev pub list_of : List ℕ → List Data → List ℕ × Data
list_of name ds = (name, array (items_of ds))

-- A number that may be missing.
abbrev pub some_whole : List ℕ → Option ℤ → Entries
some_whole name None = []
some_whole name (Some z) = whole name z ∷ []

-- A code by its name, or its number if it has none.
abbrev pub name_or_code : Option (List ℕ) → ℕ → Data
name_or_code (Some name) n = string name
name_or_code None n = number (unsigned n)

-- Byte strings, each in hexadecimal.
abbrev pub blobs_of : List (List ℕ) → List Data
blobs_of = map (λ b. string (encode_lower b))

-- Either can't be parsed, or it is this value.
abbrev pub IsRead : Option Data → Option Made → Type 0
IsRead None None = ⊤
IsRead (Some d) (Some made) = IfOk made (Is d)
IsRead None (Some made) = ⊥
IsRead (Some d) None = ⊥
