-- What a line has: plain values, lists of them, and objects of them. Each has one text in JSON.
use Rattle.std.specs.Prelude.{
  ◌≡◌,
  ℕ,
  ℤ,
  pos,
  negsuc,
  ◌-◌,
  ◌^◌,
  min,
  List,
  [],
  ◌∷◌,
  ◌++◌,
  map,
  Bool,
  decimal,
}
use Rattle.std.specs.Fmt.{signed_decimal}
use Rattle.json.specs.Json as json
use Rattle.json.specs.Value.{items_of}
use Rattle.json.specs.Tree.{json_tokens}
use Rattle.json.specs.Written.{Written}
use Rattle.json_objects.specs.Seconds.{seconds_text}

-- A value without parts. `seconds` are given in microseconds.
pub data Plain : Type 0 where
  truth : Bool → Plain
  number : ℕ → Plain
  whole : ℤ → Plain
  seconds : ℕ → Plain
  text : List ℕ → Plain

pub data Data : Type 0 where
  plain : Plain → Data
  list : List Plain → Data
  object : List (List ℕ × Plain) → Data

abbrev pub text_list : List (List ℕ) → Data
text_list ss = list (map text ss)

abbrev pub number_list : List ℕ → Data
number_list ns = list (map number ns)

-- Numbers have 64 bits. Greater ones, which no value has, count as the greatest: so each value has
-- a text that reads back.
abbrev pub capped : ℕ → ℕ
capped n = min n (2 ^ 64 - 1)

abbrev pub capped_whole : ℤ → ℤ
capped_whole (pos n) = pos (min n (2 ^ 63 - 1))
capped_whole (negsuc n) = negsuc (min n (2 ^ 63 - 1))

abbrev pub plain_json : Plain → json.Json
plain_json (truth b) = json.boolean b
plain_json (number n) = json.number (decimal (capped n))
plain_json (whole z) = json.number (signed_decimal (capped_whole z))
plain_json (seconds n) = json.number (seconds_text (capped n))
plain_json (text s) = json.string s

abbrev pub plain_members : List (List ℕ × Plain) → json.Members
plain_members [] = json.no_members
plain_members (m ∷ ms) = json.member m.0 (plain_json m.1) (plain_members ms)

abbrev pub json_of : Data → json.Json
json_of (plain p) = plain_json p
json_of (list ps) = json.array (items_of (map plain_json ps))
json_of (object ms) = json.object (plain_members ms)

-- A writer of JSON got the value's tokens at its end.
abbrev pub WritesData : Data → Written → Written → Type 0
WritesData d old new = new.tokens ≡ old.tokens ++ json_tokens (json_of d)
