use Rattle.std.proofs.Common.{◌≡◌, ◌≤◌, ◌+◌, drop}
use Rattle.segments.specs.Cells.{differing}
use Rattle.segments.specs.Pages.{marked}
use Rattle.segments.proofs.marks.count_unlike.Given as goal

abbrev pub invariant-loop-i : goal.invariant-loop-i
invariant-loop-i l =
    (l.count ≤ l.i) × (l.count + differing (0 + l.i) (drop l.i l.new) (marked l.marks l.bytes)
    ≡ differing 0 l.new (marked l.marks l.bytes))
