use Rattle.std.proofs.Common.{◌≡◌, ◌≤◌, ◌+◌, ◌-◌, length, drop}
use Rattle.preambles.specs.Walk.{read, view}
use Rattle.preambles.proofs.preamble.Preamble.read_both.Given as goal

abbrev pub invariant-loop-side : goal.invariant-loop-side
invariant-loop-side l =
    (l.of_client ≤ length l.client) × (l.of_server ≤ length l.server)
    × (read l.client l.server (view l.initial.self)
    ≡ read (drop l.of_client l.client) (drop l.of_server l.server) (view l.self))

abbrev pub decreases-loop-side : goal.decreases-loop-side
decreases-loop-side l =
    (length l.client - l.of_client) + (length l.server - l.of_server)
