-- A value that may have no definition.
use Rattle.std.proofs.Common.{◌≡◌, Option, Some, None, Result, Ok, Err, IfOk, IfSome, OnOk}

-- A cell that has the value, if that is defined, is taken as it.
pub taken_if : {C D R E F : Type 0} (o : Option D) (cell : Result C E) (taken : Result R F)
    (value : C → D) (H : D → Type 0)
    → ((v : D) → IfOk cell (λ c. value c ≡ v) → OnOk taken (H v))
    → IfOk cell (λ c. IfSome o (λ v. value c ≡ v))
    → OnOk taken (IfSome o H)
taken_if (Some v) cell taken value H f h = f v h
taken_if None cell (Ok x) value H f h = tt
taken_if None cell (Err e) value H f h = tt
