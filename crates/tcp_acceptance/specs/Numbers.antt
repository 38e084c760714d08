-- Sequence numbers, modulo 2^32 (RFC 9293, section 3.4).
use Rattle.std.specs.Prelude.{ℕ, ◌+◌, ◌-◌, ◌%◌, ◌^◌, Bool, ◌&&◌, nat_lt, if◌then◌else◌, Option, Some, None}

-- How far a number is ahead of another. It comes after the other if it is less than half the circle
-- ahead.
abbrev pub ahead_of : ℕ → ℕ → ℕ
ahead_of n m = (n + (2 ^ 32 - m)) % 2 ^ 32

abbrev pub is_behind : ℕ → ℕ → Bool
is_behind n m = nat_lt 0 (ahead_of n m) && nat_lt (ahead_of n m) (2 ^ 31)

-- The number a count of bytes after another.
abbrev pub number_after : ℕ → ℕ → ℕ
number_after n count = (n + count) % 2 ^ 32

-- The later of a number and a known one.
abbrev pub later : Option ℕ → ℕ → ℕ
later None m = m
later (Some n) m = if is_behind n m then n else m
