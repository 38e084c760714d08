use Rattle.std.proofs.Common.{◌-◌, length, min, ap, sym, ◌∙◌, arith}
use Rattle.segments.proofs.PlaceLemmas.{differing_common, differing_end}
use Rattle.segments.proofs.places.count_differing.Goals as goal

pub returns-then-len-at-clause-is : goal.returns-then-len-at-clause-is
returns-then-len-at-clause-is c =
    sym (differing_end c.args.window.now c.args.bytes.now c.args.at
    (omega (arith, c.if-len-at.true, c.len.ensures)))

pub returns-clause-is : goal.returns-clause-is
returns-clause-is c =
    let w = c.args.window.now in
    let ys = c.args.bytes.now in
    c.differing.ensures.is
    ∙ differing_common w ys c.args.at c.min-common.result
    (c.min-common.ensures ∙ ap (λ n. min (length ys) (n - c.args.at)) c.len-2.ensures)
