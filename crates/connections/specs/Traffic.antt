-- Counts of what a side sent.
use Rattle.std.specs.Prelude.{ℕ, ◌+◌, ◌-◌, ◌*◌, ◌^◌, min}
use Rattle.connections.specs.declared.traffic.Traffic.{Traffic}

-- A count plus more, saturating.
abbrev pub plus_up_to : ℕ → ℕ → ℕ → ℕ
plus_up_to most n more = min (n + more) most

abbrev pub plus : ℕ → ℕ → ℕ
plus = plus_up_to (2 ^ 64 - 1)

-- A product, saturating.
abbrev pub times : ℕ → ℕ → ℕ
times n m = min (n * m) (2 ^ 64 - 1)

-- Nothing was sent.
abbrev pub nothing_sent : Traffic
nothing_sent = record { packets = 0; bytes = 0 }

-- One more packet, with this many bytes of data.
abbrev pub with_packet : ℕ → Traffic → Traffic
with_packet n t = record { packets = plus t.packets 1; bytes = plus t.bytes n }
