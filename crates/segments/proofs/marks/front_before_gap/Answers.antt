use Rattle.segments.proofs.MarkLemmas.{run_ended, run_ends, run_so_far}
use Rattle.segments.proofs.marks.front_before_gap.Goals as goal

pub returns-then-not-marks-i : goal.returns-then-not-marks-i
returns-then-not-marks-i c =
    run_ends c.args.marks.now c.args.bytes.now c.loop-i.i c.if-not-marks-i.true c.loop-i.invariant

pub loop-i-preserved : goal.loop-i-preserved
loop-i-preserved c =
    run_so_far c.args.marks.now c.args.bytes.now c.loop-i.i c.requires c.loop-i-test.true
    c.if-not-marks-i.false
    c.loop-i.invariant

pub returns : goal.returns
returns c =
    run_ended c.args.marks.now c.args.bytes.now c.loop-i.i c.requires c.loop-i-test.false
    c.loop-i.invariant
