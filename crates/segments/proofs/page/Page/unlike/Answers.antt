use Rattle.std.proofs.Common.{◌+◌, ◌-◌, length, drop, take, ◌∙◌, ap, arith}
use Rattle.segments.specs.Cells.{differing}
use Rattle.segments.proofs.PartLemmas.{part_is}
use Rattle.segments.proofs.page.Page.unlike.Goals as goal

pub returns-clause-is : goal.returns-clause-is
returns-clause-is c =
    let i = c.self.inside in
    let a = c.args.at in
    let ys = c.args.new.now in
    let n = length ys in
    c.count_unlike.ensures.is
    ∙ ap (differing 0 ys) (part_is i.marks i.bytes a (a + n - a) n (omega arith))
    ∙ ap (λ v. differing 0 ys (take n (drop a v))) c.self.view_is
