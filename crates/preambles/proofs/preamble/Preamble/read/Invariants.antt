use Rattle.std.proofs.Common.{◌≡◌, ◌≤◌, ◌-◌, ℕ, List, length, drop}
use Rattle.preambles.specs.Walk.{view, walk_behind}
use Rattle.preambles.proofs.preamble.Preamble.read.Given as goal

abbrev pub invariant-loop-count : goal.invariant-loop-count
invariant-loop-count l =
    (l.count ≤ length l.bytes)
    × ((client server : List ℕ)
    → walk_behind l.side l.bytes client server (view l.initial.self)
    ≡ walk_behind l.side (drop l.count l.bytes) client server (view l.self))

abbrev pub decreases-loop-count : goal.decreases-loop-count
decreases-loop-count l = length l.bytes - l.count
