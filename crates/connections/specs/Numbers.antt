-- Sequence numbers, modulo 2^32 (RFC 9293, section 3.4).
use Rattle.std.specs.Prelude.{ℕ, ◌+◌, ◌-◌, ◌%◌, ◌^◌, Bool, ◌&&◌, nat_lt, if◌then◌else◌}

-- How far a number is ahead of another. It comes after the other if it is less than half the circle
-- ahead.
abbrev pub ahead_of : ℕ → ℕ → ℕ
ahead_of n m = (n + (2 ^ 32 - m)) % 2 ^ 32

abbrev pub is_behind : ℕ → ℕ → Bool
is_behind n m = nat_lt 0 (ahead_of n m) && nat_lt (ahead_of n m) (2 ^ 31)

-- How far a number comes after another; 0 if it doesn't.
abbrev pub advance : ℕ → ℕ → ℕ
advance n m = if is_behind n m then ahead_of n m else 0
