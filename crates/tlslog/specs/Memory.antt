-- The memory of connections, and how many lines they may have.
use Rattle.std.specs.Prelude.{ℕ, ◌-◌, ◌^◌, Option, Some, None}

-- What a limit leaves for connections: incomplete datagrams take 32 MiB, and the program 8 MiB.
abbrev pub connection_memory : Option ℕ → ℕ
connection_memory None = 2 ^ 64 - 1
connection_memory (Some limit) = limit - 33554432 - 8388608

-- With a limit of memory a connection has at most 65,536 lines.
abbrev pub line_limit : Option ℕ → ℕ
line_limit None = 2 ^ 64 - 1
line_limit (Some limit) = 65536
