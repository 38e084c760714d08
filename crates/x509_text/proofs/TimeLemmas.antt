-- Texts that are appended to others.
use Rattle.std.proofs.Common.{◌≡◌, ◌++◌, ℕ, List, Ok, Err, OnOk, ap, ◌∙◌, append_assoc}
use Rattle.std.specs.Prelude.{Result}

pub behind : {A E : Type 0} (old mid new x y : List ℕ) (r : Result A E) → mid ≡ old ++ x
    → OnOk r (new ≡ mid ++ y)
    → OnOk r (new ≡ old ++ (x ++ y))
behind old mid new x y (Ok a) first second = second ∙ ap (λ t. t ++ y) first ∙ append_assoc old x y
behind old mid new x y (Err e) first second = second
