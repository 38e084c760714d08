use Rattle.std.proofs.Common.{length, sym, ◌∙◌, ap, arith}
use Rattle.segments.specs.Cells.{cell}
use Rattle.segments.proofs.PageLemmas.{cell_within, places_length}
use Rattle.segments.proofs.window.Window.place.Goals as goal

pub overflow_add-self-inside : goal.overflow_add-self-inside
overflow_add-self-inside c =
    let i = c.self.inside in
    let l = places_length i.len i.begin i.pages in
    let same = ap length c.self.view_is in
    let small = c.self.invariant.small in
    omega (arith, l, same, small, c.requires)

pub returns : goal.returns
returns c =
    let i = c.self.inside in
    let l = places_length i.len i.begin i.pages in
    let same = ap length c.self.view_is in
    c.byte_at.ensures
    ∙ sym (cell_within i.len i.begin i.pages c.args.at (omega (arith, l, same, c.requires)))
    ∙ ap (λ w. cell w c.args.at) c.self.view_is
