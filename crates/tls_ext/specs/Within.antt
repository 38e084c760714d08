-- The result of a call, with another rest.
use Rattle.std.specs.Prelude.{ℕ, List, Ok, Err}
use Rattle.std.specs.Borrow.{Bor}
use Rattle.layouts.specs.Answers.{Returned}

abbrev pub with_rest : {X : Type 0} → Bor (List ℕ) → Returned X → Returned X
with_rest rest (Ok x) = Ok (rest, x.1)
with_rest rest (Err e) = Err e
