use Rattle.std.proofs.Common.{true, false, arith}
use Rattle.segments.proofs.MarkLemmas.{counted_mark}
use Rattle.segments.proofs.marks.count_marks.Goals as goal
use Rattle.segments.proofs.marks.count_marks.Goals.{then-mark, else-mark}

pub loop-mark-preserved : goal.loop-mark-preserved
loop-mark-preserved c =
    let inv = c.loop-mark.invariant in
    elim c.if-mark.branch [
      | then-mark w ↦ (
        omega (arith, inv.0, w.count-is),
        counted_mark c.args.marks.now c.loop-mark.mark-index c.loop-mark.count c.if-mark.count true
            c.loop-mark-test.true w.if-mark.true inv.1 w.count-is,
      )
      | else-mark w ↦ (
        omega (arith, inv.0, w.count-is),
        counted_mark c.args.marks.now c.loop-mark.mark-index c.loop-mark.count c.if-mark.count false
            c.loop-mark-test.true w.if-mark.false inv.1 (omega (arith, w.count-is)),
      )
    ]
