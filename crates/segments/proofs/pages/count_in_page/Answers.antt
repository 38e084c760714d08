use Rattle.std.proofs.Common.{sym, ◌∙◌, ap}
use Rattle.segments.specs.Cells.{known}
use Rattle.segments.proofs.PageMapLemmas.{found_is, missing_is, nothing_known}
use Rattle.segments.proofs.pages.count_in_page.Goals as goal

pub returns-in-Some-clause-is : goal.returns-in-Some-clause-is
returns-in-Some-clause-is c =
    c.known.ensures.is
    ∙ ap known (found_is c.args.pages.now c.args.first c.args.n c.number_of.result
    c.within_page.result
    c.in-Some.page.now c.deref.result.now c.number_of.ensures c.in-Some.ensures.value
    c.deref.ensures
    c.within_page.ensures.is c.requires.whole c.requires.one)

pub returns-in-None-clause-is : goal.returns-in-None-clause-is
returns-in-None-clause-is c =
    sym (ap known
    (missing_is c.args.pages.now c.args.first c.args.n c.number_of.result c.number_of.ensures
    c.in-None.ensures.value c.requires.one) ∙ nothing_known c.args.n)
