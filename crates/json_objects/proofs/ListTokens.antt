-- The tokens of a list.
use Rattle.std.proofs.Common.{◌≡◌, ◌++◌, ◌∷◌, [], ℕ, List, map, decimal, refl, ap}
use Rattle.std.specs.String.{string_bytes}
use Rattle.std.specs.Prelude.{String}
use Rattle.std.specs.declared.alloc.Global.{Global}
use Rattle.json.specs.Token.{Token, string, number, end_array}
use Rattle.json.specs.Tree.{items_tokens}
use Rattle.json.specs.Value.{items_of}
use Rattle.json_objects.specs.Data as data_of
use Rattle.json_objects.specs.Data.{capped, plain_json}

pub strings-tokens : (ss : List (String Global))
    → items_tokens (items_of (map plain_json (map data_of.text (map string_bytes ss))))
    ≡ map (λ s. string (string_bytes s)) ss ++ end_array ∷ []
strings-tokens [] = refl
strings-tokens (s ∷ ss) = ap (λ ts. string (string_bytes s) ∷ ts) (strings-tokens ss)

pub numbers-tokens : (ns : List ℕ)
    → items_tokens (items_of (map plain_json (map data_of.number ns)))
    ≡ map (λ n. number (decimal (capped n))) ns ++ end_array ∷ []
numbers-tokens [] = refl
numbers-tokens (n ∷ ns) = ap (λ ts. number (decimal (capped n)) ∷ ts) (numbers-tokens ns)
