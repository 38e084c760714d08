-- Sums of memory are monotone.
use Rattle.std.proofs.Common.{ℕ, ◌≤◌, arith}
use Rattle.tls_observer.specs.Capacity.{plus}

plus_more : (a b c d : ℕ) → a ≤ b → c ≤ d → plus a c ≤ plus b d
plus_more a b c d h k = omega (arith, h, k)

-- The parts of an analysis.
pub sum_more : (a b c d n m : ℕ) → a ≤ b → c ≤ d
    → plus (plus (plus a c) n) m ≤ plus (plus (plus b d) n) m
sum_more a b c d n m h k =
    plus_more (plus (plus a c) n) (plus (plus b d) n) m m
    (plus_more (plus a c) (plus b d) n n (plus_more a b c d h k) (omega arith)) (omega arith)
