use Rattle.std.proofs.Common.{◌≡◌, ◌++◌, drop, take}
use Rattle.segments.specs.Cells.{run}
use Rattle.segments.specs.Pages.{marked}
use Rattle.segments.proofs.marks.front_before_gap.Given as goal

abbrev pub invariant-loop-i : goal.invariant-loop-i
invariant-loop-i l =
    run (marked l.marks l.bytes) ≡ take l.i l.bytes ++ run (drop l.i (marked l.marks l.bytes))
