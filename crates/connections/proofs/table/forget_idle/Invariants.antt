use Rattle.std.proofs.Common.{◌≡◌, length}
use Rattle.connections.specs.Table.{IsForgotten}
use Rattle.connections.proofs.table.forget_idle.Given as goal

abbrev pub invariant-loop-last_time : goal.invariant-loop-last_time
invariant-loop-last_time l = IsForgotten l.fn.time l.initial.closed.entries l.closed.entries
    × (l.closed.cap ≡ l.initial.closed.cap)

abbrev pub decreases-loop-last_time : goal.decreases-loop-last_time
decreases-loop-last_time l = length l.closed.entries
