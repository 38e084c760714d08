-- The members of an object in order, and their text.
use Rattle.std.specs.Prelude.{ℕ, List, [], ◌∷◌, ◌++◌, flat_map}
use Rattle.std.specs.List.{join_with_byte}
use Rattle.json.specs.Token.{key}
use Rattle.json.specs.Json.{Json, object, Members, no_members, member}
use Rattle.json.specs.Tree.{json_tokens}
use Rattle.json.specs.Print.{print}
use Rattle.json_objects.specs.Data.{Data, json_of}

-- Names, each with its value.
abbrev pub Entries : Type 0
Entries = List (List ℕ × Data)

abbrev pub members_of : Entries → Members
members_of [] = no_members
members_of (e ∷ es) = member e.0 (json_of e.1) (members_of es)

abbrev pub object_of : Entries → Json
object_of es = object (members_of es)

-- A value as JSON, without spaces.
abbrev pub text_of : Json → List ℕ
text_of j = print (json_tokens j)

-- A member as JSON: its name, a colon and its value.
abbrev pub member_text : List ℕ × Data → List ℕ
member_text e = print (key e.0 ∷ json_tokens (json_of e.1))

-- A member whose value is this text.
abbrev pub raw_member : List ℕ → List ℕ → List ℕ
raw_member name value = print (key name ∷ []) ++ value

-- Members with a comma behind each.
abbrev pub with_commas : List (List ℕ) → List ℕ
with_commas = flat_map (λ m. m ++ 44 ∷ [])

-- Members in braces, with commas between them.
abbrev pub braced : List (List ℕ) → List ℕ
braced ms = 123 ∷ (join_with_byte 44 ms ++ 125 ∷ [])
