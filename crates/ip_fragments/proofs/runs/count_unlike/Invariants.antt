use Rattle.std.proofs.Common.{◌≡◌, ◌≤◌, ◌+◌, drop}
use Rattle.ip_fragments.specs.Runs.{unlike}
use Rattle.ip_fragments.proofs.runs.count_unlike.Given as goal

abbrev pub invariant-loop-i : goal.invariant-loop-i
invariant-loop-i l = (l.count ≤ l.i)
    × (l.count + unlike (drop l.i l.bytes) (drop l.i l.others) ≡ unlike l.bytes l.others)
