use Rattle.std.proofs.Common.{◌≡◌, length, take}
use Rattle.connections.specs.Memory.{closed_count}
use Rattle.connections.proofs.memory.evict_closed.Given as goal

abbrev pub invariant-loop-closed : goal.invariant-loop-closed
invariant-loop-closed l =
    (take (closed_count l.fn.limit) l.closed.entries
    ≡ take (closed_count l.fn.limit) l.initial.closed.entries)
    × (l.closed.cap ≡ l.initial.closed.cap)

abbrev pub decreases-loop-closed : goal.decreases-loop-closed
decreases-loop-closed l = length l.closed.entries
