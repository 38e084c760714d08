use Rattle.std.proofs.Common.{◌≡◌, ◌≤◌, ◌++◌, length, drop}
use Rattle.ip_fragments.specs.Runs.{joined}
use Rattle.ip_fragments.proofs.runs.append_joined.Given as goal

abbrev pub invariant-loop-left : goal.invariant-loop-left
invariant-loop-left l = (l.left ≤ length l.runs)
    × (l.out.items ≡ l.initial.out.items ++ joined (drop l.left l.runs))

abbrev pub decreases-loop-left : goal.decreases-loop-left
decreases-loop-left l = l.left
