-- Which connections have a five-tuple.
use Rattle.std.specs.Prelude.{ℕ, ◌+◌, Bool, true, false, not, Option, Some, None, List, [], ◌∷◌, filter}
use Rattle.connections.specs.FiveTuple.{is_five_tuple}
use Rattle.connections.specs.declared.five_tuple.FiveTuple.{FiveTuple}

abbrev pub one_if : Bool → ℕ
one_if true = 1
one_if false = 0

-- How often a five-tuple is among these.
abbrev pub times : FiveTuple → List FiveTuple → ℕ
times e [] = 0
times e (f ∷ fs) = one_if (is_five_tuple e f) + times e fs

module _ {X : Type 0} where
  -- How many of these entries have it.
  abbrev pub count_of : FiveTuple → List (FiveTuple × X) → ℕ
  count_of e [] = 0
  count_of e (x ∷ xs) = one_if (is_five_tuple e x.0) + count_of e xs

  -- The entry of a value, if there is one.
  abbrev pub entry_of : FiveTuple → Option X → List (FiveTuple × X)
  entry_of e None = []
  entry_of e (Some x) = (e, x) ∷ []

  -- The entries of all others, in their order.
  abbrev pub rest_of : FiveTuple → List (FiveTuple × X) → List (FiveTuple × X)
  rest_of e xs = filter (λ x. not (is_five_tuple e x.0)) xs
