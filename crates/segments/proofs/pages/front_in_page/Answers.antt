use Rattle.std.proofs.Common.{sym, ◌∙◌, ap}
use Rattle.segments.specs.Cells.{run}
use Rattle.segments.proofs.PageMapLemmas.{found_is, missing_is, nothing_runs}
use Rattle.segments.proofs.pages.front_in_page.Goals as goal

pub returns-in-Some : goal.returns-in-Some
returns-in-Some c =
    c.front.ensures
    ∙ ap run (found_is c.args.pages.now c.args.first c.args.n c.number_of.result
    c.within_page.result
    c.in-Some.page.now c.deref.result.now c.number_of.ensures c.in-Some.ensures.value
    c.deref.ensures
    c.within_page.ensures.is c.requires.whole c.requires.one)

pub returns-in-None : goal.returns-in-None
returns-in-None c =
    sym (ap run (missing_is c.args.pages.now c.args.first c.args.n c.number_of.result
    c.number_of.ensures
    c.in-None.ensures.value c.requires.one) ∙ nothing_runs c.args.n)
