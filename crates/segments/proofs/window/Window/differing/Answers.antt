use Rattle.std.proofs.Common.{length, ◌∙◌, ap, arith}
use Rattle.segments.specs.Cells.{differing}
use Rattle.segments.proofs.PageLemmas.{places_length}
use Rattle.segments.proofs.SpanLemmas.{differing_within}
use Rattle.segments.proofs.window.Window.differing.Goals as goal

pub overflow_add-self-inside : goal.overflow_add-self-inside
overflow_add-self-inside c =
    let i = c.self.inside in
    let l = places_length i.len i.begin i.pages in
    let same = ap length c.self.view_is in
    let small = c.self.invariant.small in
    omega (arith, l, same, small, c.requires)

pub count_unlike-requires-clause-small : goal.count_unlike-requires-clause-small
count_unlike-requires-clause-small c =
    let i = c.self.inside in
    let l = places_length i.len i.begin i.pages in
    let same = ap length c.self.view_is in
    let small = c.self.invariant.small in
    omega (arith, l, same, small, c.requires)

pub returns-clause-is : goal.returns-clause-is
returns-clause-is c =
    let i = c.self.inside in
    let ys = c.args.bytes.now in
    let l = places_length i.len i.begin i.pages in
    let same = ap length c.self.view_is in
    c.count_unlike.ensures.is
    ∙ differing_within i.len i.begin i.pages c.args.at ys (omega (arith, l, same, c.requires))
    ∙ ap (differing c.args.at ys) c.self.view_is
