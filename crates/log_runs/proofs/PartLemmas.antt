-- A remainder is one number.
use Rattle.std.proofs.Common.{◌≡◌, ℕ, ◌+◌, ◌%◌, ◌≤◌, ◌==◌, true, refl, sym, ◌∙◌, arith}
use Rattle.std.proofs.lemmas.Bool.{eq-eqb, eqb-true}
use Rattle.std.proofs.lemmas.Nat.{mod_below}

pub some_number : (x last : ℕ) → (n : ℕ) × (n ≤ last) × ((x % (last + 1) == n) ≡ true)
some_number x last =
    (x % (last + 1), omega (arith, mod_below x (last + 1) (omega arith)), eq-eqb _ _ refl)

pub one_number : (x last m : ℕ) → (x % (last + 1) == m) ≡ true → (n : ℕ) → last ≡ last
    → (x % (last + 1) == n) ≡ true → m ≡ n
one_number x last m h n same k = sym (eqb-true _ _ h) ∙ eqb-true _ _ k
