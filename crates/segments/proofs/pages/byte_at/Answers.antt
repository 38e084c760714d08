use Rattle.std.proofs.Common.{sym, ◌∙◌, ap}
use Rattle.segments.specs.Cells.{cell}
use Rattle.segments.specs.Pages.{page}
use Rattle.segments.proofs.PageMapLemmas.{place_is}
use Rattle.segments.proofs.pages.byte_at.Goals as goal

pub returns-in-Some : goal.returns-in-Some
returns-in-Some c =
    let m = c.args.pages.now in
    let p = c.in-Some.page.now in
    place_is m c.args.at p c.place.result
    (ap (page m) (sym c.number_of.ensures) ∙ sym c.in-Some.ensures.value)
    (c.place.ensures ∙ ap (λ v. cell v c.within_page.result) c.deref.ensures
    ∙ ap (cell p.value) c.within_page.ensures.is)
