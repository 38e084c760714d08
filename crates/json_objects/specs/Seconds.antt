-- Microseconds as text: seconds, a point, and one to six digits.
use Rattle.std.specs.Prelude.{ℕ, ◌+◌, ◌/◌, ◌%◌, ◌==◌, List, [], ◌∷◌, ◌++◌, cond, decimal}

-- A number's decimal digit at the place of this worth.
abbrev pub digit : ℕ → ℕ → ℕ
digit m worth = 48 + m / worth % 10

-- The six digits of a number below a million, without zeros at the end but the first digit.
abbrev pub fraction : ℕ → List ℕ
fraction m =
    digit m 100000
    ∷ cond (m % 100000 == 0) []
    (digit m 10000
    ∷ cond (m % 10000 == 0) []
    (digit m 1000
    ∷ cond (m % 1000 == 0) []
    (digit m 100
    ∷ cond (m % 100 == 0) [] (digit m 10 ∷ cond (m % 10 == 0) [] (digit m 1 ∷ [])))))

-- Microseconds as seconds.
abbrev pub seconds_text : ℕ → List ℕ
seconds_text n = decimal (n / 1000000) ++ 46 ∷ fraction (n % 1000000)
