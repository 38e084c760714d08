use Rattle.std.proofs.Common.{◌≡◌, ◌<◌, length, arith}
use Rattle.segments.specs.Pages.{marked}
use Rattle.segments.proofs.MarkLemmas.{filling_ends, filling_kept, filling_put, filling_starts, marked_length}
use Rattle.segments.proofs.marks.fill_each.Goals as goal
use Rattle.segments.proofs.marks.fill_each.Goals.{then-not-marks-i, else-not-marks-i}

pub loop-i-init : goal.loop-i-init
loop-i-init c = filling_starts (marked c.args.marks.now c.args.bytes.now) c.args.new.now

pub loop-i-preserved : goal.loop-i-preserved
loop-i-preserved c =
    let ms0 = c.args.marks.now in
    let bs0 = c.args.bytes.now in
    let ys = c.args.new.now in
    let i = c.loop-i.i in
    let ms = c.loop-i.marks in
    let bs = c.loop-i.bytes in
    let long = marked_length ms0 bs0 c.requires.bytes in
    let same = c.loop-i.auto in
    let below = c.loop-i-test.true in
    let h : i < length ms = omega (arith, below, c.requires.new, same.marks) in
    let l : length bs ≡ length ms = omega (arith, same.marks, same.bytes, c.requires.bytes) in
    let k : length (marked ms0 bs0) ≡ length ms = omega (arith, long, same.marks) in
    let m : length ys ≡ length ms = omega (arith, c.requires.new, same.marks) in
    elim c.if-not-marks-i.branch [
      | then-not-marks-i w ↦
          filling_put (marked ms0 bs0) ys i c.loop-i.count c.if-not-marks-i.count ms
          c.if-not-marks-i.marks bs c.if-not-marks-i.bytes c.loop-i.invariant h l k m
          w.if-not-marks-i.true
          w.marks-is w.bytes-is w.count-is
      | else-not-marks-i w ↦
          filling_kept (marked ms0 bs0) ys i c.loop-i.count c.if-not-marks-i.count ms
          c.if-not-marks-i.marks bs c.if-not-marks-i.bytes c.loop-i.invariant h l k m
          w.if-not-marks-i.false
          w.marks-is w.bytes-is w.count-is
    ]

pub returns-clause-filled : goal.returns-clause-filled
returns-clause-filled c =
    filling_ends (marked c.args.marks.now c.args.bytes.now) c.args.new.now c.loop-i.i
    c.loop-i.count _
    c.loop-i.invariant c.loop-i-test.false
