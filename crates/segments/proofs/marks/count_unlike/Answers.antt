use Rattle.std.proofs.Common.{true, false, refl, arith}
use Rattle.segments.proofs.MarkLemmas.{alike_is, unlike_is, unlike_one}
use Rattle.segments.proofs.marks.count_unlike.Goals as goal
use Rattle.segments.proofs.marks.count_unlike.Goals.{then-marks-i+then-is_unlike, else-marks-i}
use Rattle.segments.proofs.marks.count_unlike.Goals.{else-marks-i-via-then-marks-i+else-is_unlike, else-marks-i-via-else-marks-i}

pub loop-i-preserved : goal.loop-i-preserved
loop-i-preserved c =
    let ms = c.args.marks.now in
    let bs = c.args.bytes.now in
    let ys = c.args.new.now in
    let i = c.loop-i.i in
    let inv = c.loop-i.invariant in
    elim c.if-marks-i.branch [
      | then-marks-i+then-is_unlike w ↦ (
        omega (arith, inv.0, w.count-is),
        unlike_one ms bs ys i c.loop-i.count c.if-marks-i.count _ true true c.requires.bytes
            c.requires.new
            c.loop-i-test.true w.if-marks-i.true (unlike_is _ _ w.if-is_unlike.true)
            w.count-is inv.1,
      )
      | else-marks-i w ↦ elim w.else-marks-i.branch [
        | else-marks-i-via-then-marks-i+else-is_unlike v ↦ (
          omega (arith, inv.0, w.count-is),
          unlike_one ms bs ys i c.loop-i.count c.if-marks-i.count _ true false c.requires.bytes
              c.requires.new
              c.loop-i-test.true v.if-marks-i.true (alike_is _ _ v.if-is_unlike.false)
              (omega (arith, w.count-is)) inv.1,
        )
        | else-marks-i-via-else-marks-i v ↦ (
          omega (arith, inv.0, w.count-is),
          unlike_one ms bs ys i c.loop-i.count c.if-marks-i.count _ false _ c.requires.bytes
              c.requires.new
              c.loop-i-test.true v.if-marks-i.false refl (omega (arith, w.count-is)) inv.1,
        )
      ]
    ]
