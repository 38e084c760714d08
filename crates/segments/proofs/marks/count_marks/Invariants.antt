use Rattle.std.proofs.Common.{◌≡◌, ◌≤◌, take}
use Rattle.segments.specs.Pages.{set_marks}
use Rattle.segments.proofs.marks.count_marks.Given as goal

abbrev pub invariant-loop-mark : goal.invariant-loop-mark
invariant-loop-mark l = (l.count ≤ l.mark-index) × (l.count ≡ set_marks (take l.mark-index l.marks))
