use Rattle.std.proofs.Common.{◌≡◌, ◌+◌, drop}
use Rattle.segments.specs.Cells.{empties}
use Rattle.segments.proofs.places.count_empty.Given as goal

abbrev pub invariant-loop-i : goal.invariant-loop-i
invariant-loop-i l = empties l.window ≡ l.i + empties (drop l.i l.window)
