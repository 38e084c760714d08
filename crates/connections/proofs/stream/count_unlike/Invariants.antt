use Rattle.std.proofs.Common.{◌≡◌, ◌≤◌, ◌+◌, drop}
use Rattle.connections.specs.Stream.{unlike}
use Rattle.connections.proofs.stream.count_unlike.Given as goal

abbrev pub invariant-loop-i : goal.invariant-loop-i
invariant-loop-i l = (l.count ≤ l.i)
    × (l.count + unlike (drop l.i l.bytes) (drop l.i l.others) ≡ unlike l.bytes l.others)
