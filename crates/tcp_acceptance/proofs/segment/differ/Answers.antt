use Rattle.std.proofs.Common.{sym, ◌∙◌, arith}
use Rattle.tcp_acceptance.proofs.DifferLemmas.{differ_done}
use Rattle.tcp_acceptance.proofs.segment.differ.Goals as goal

pub returns : goal.returns
returns c =
    sym (differ_done c.args.bytes.now c.args.others.now c.loop-place.place
    (omega (arith, c.loop-place-test.false, c.min-place-end.ensures)))
    ∙ c.loop-place.invariant
