-- Reading both sides in pieces.
use Rattle.std.specs.Prelude.{List, ℕ, ◌++◌}
use Rattle.preambles.specs.Walk.{End, read}

-- Where reading goes on with further bytes of both sides, behind those that weren't read.
abbrev pub read_on : End → List ℕ → List ℕ → End
read_on e client server = read (e.client ++ client) (e.server ++ server) e.place
