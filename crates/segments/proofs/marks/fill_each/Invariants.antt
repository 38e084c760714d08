use Rattle.segments.specs.Pages.{marked}
use Rattle.segments.proofs.MarkLemmas.{IsFilling}
use Rattle.segments.proofs.marks.fill_each.Given as goal

abbrev pub invariant-loop-i : goal.invariant-loop-i
invariant-loop-i l =
    IsFilling (marked l.initial.marks l.initial.bytes) l.new l.i l.count (marked l.marks l.bytes)
