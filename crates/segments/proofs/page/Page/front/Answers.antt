use Rattle.std.proofs.Common.{◌-◌, ◌+◌, drop, take, sym, ◌∙◌, ap, arith}
use Rattle.segments.specs.Cells.{known, run}
use Rattle.segments.proofs.PartLemmas.{front_whole, part_is}
use Rattle.segments.proofs.page.Page.front.Goals as goal

pub returns : goal.returns
returns c =
    let i = c.self.inside in
    let a = c.args.from in
    let n = c.args.n in
    c.front_before_gap.ensures
    ∙ ap run (part_is i.marks i.bytes a (a + n - a) n (omega arith))
    ∙ ap (λ v. run (take n (drop a v))) c.self.view_is

pub returns-then-known-n : goal.returns-then-known-n
returns-then-known-n c =
    let i = c.self.inside in
    let l = c.self.invariant in
    let a = c.args.from in
    let n = c.args.n in
    let fits = c.requires in
    front_whole i.marks i.bytes a (a + n - a) n (omega arith) (omega (arith, l.marks_long, fits))
    (l.bytes_long ∙ sym l.marks_long)
    (sym c.if-known-n.true ∙ c.known.ensures.is
    ∙ ap (λ v. known (take n (drop a v))) (sym c.self.view_is))
    ∙ ap (λ v. run (take n (drop a v))) c.self.view_is
