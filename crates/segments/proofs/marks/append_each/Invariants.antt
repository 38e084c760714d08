use Rattle.std.proofs.Common.{drop}
use Rattle.segments.specs.Pages.{marked}
use Rattle.segments.specs.Places.{over}
use Rattle.segments.proofs.PlaceLemmas.{IsAppending}
use Rattle.segments.proofs.marks.append_each.Given as goal

abbrev pub invariant-loop-i : goal.invariant-loop-i
invariant-loop-i l = IsAppending l.out.items l.initial.out.items
    (over (drop l.i (marked l.marks l.bytes)) (drop l.i l.new))
    (over (marked l.marks l.bytes) l.new)
