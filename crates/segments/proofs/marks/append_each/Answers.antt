use Rattle.std.proofs.Common.{get_or, ◌∙◌, arith}
use Rattle.segments.proofs.MarkLemmas.{over_done, over_one, standing_marked, standing_unmarked}
use Rattle.segments.proofs.marks.append_each.Goals as goal
use Rattle.segments.proofs.marks.append_each.Goals.{then-marks-i, else-marks-i}

pub loop-i-preserved : goal.loop-i-preserved
loop-i-preserved c =
    let ms = c.args.marks.now in
    let bs = c.args.bytes.now in
    let ys = c.args.new.now in
    let i = c.loop-i.i in
    over_one c.loop-i.out.items c.push.new.self.items c.args.out.now.items ms bs ys i
    c.if-marks-i.push
    c.requires.bytes c.requires.new (omega (arith, c.loop-i-test.true, c.requires.new))
    c.loop-i.invariant
    c.in_ok-push.ensures.items
    (elim c.if-marks-i.branch [
      | then-marks-i w ↦
          w.push-is ∙ standing_marked ms bs i (get_or ys i 0) c.requires.bytes w.if-marks-i.true
      | else-marks-i w ↦ w.push-is ∙ standing_unmarked ms bs i (get_or ys i 0) w.if-marks-i.false
    ])

pub returns-clause-out : goal.returns-clause-out
returns-clause-out c =
    over_done c.loop-i.out.items c.args.out.now.items _ c.args.new.now c.loop-i.i
    c.loop-i-test.false
    c.loop-i.invariant
