use Rattle.std.proofs.Common.{sym, ◌∙◌, ap, arith}
use Rattle.segments.specs.Cells.{cell}
use Rattle.segments.proofs.MarkLemmas.{cell_marked, cell_unmarked}
use Rattle.segments.proofs.page.Page.place.Goals as goal

pub returns-then-self-at : goal.returns-then-self-at
returns-then-self-at c =
    let i = c.self.inside in
    let l = c.self.invariant in
    sym (cell_marked i.marks i.bytes c.args.at c.if-self-at.true
    (omega (arith, l.marks_long, l.bytes_long)))
    ∙ ap (λ v. cell v c.args.at) c.self.view_is

pub returns-else-self-at : goal.returns-else-self-at
returns-else-self-at c =
    let i = c.self.inside in
    sym (cell_unmarked i.marks i.bytes c.args.at c.if-self-at.false)
    ∙ ap (λ v. cell v c.args.at) c.self.view_is
