use Rattle.std.proofs.Common.{length, sym, ◌∙◌, ap}
use Rattle.segments.specs.Cells.{differing}
use Rattle.segments.proofs.PageMapLemmas.{found_is, missing_is, nothing_differs}
use Rattle.segments.proofs.pages.unlike_in_page.Goals as goal

pub returns-in-Some-clause-is : goal.returns-in-Some-clause-is
returns-in-Some-clause-is c =
    let ys = c.args.bytes.now in
    c.unlike.ensures.is
    ∙ ap (differing 0 ys)
    (found_is c.args.pages.now c.args.first (length ys) c.number_of.result c.within_page.result
    c.in-Some.page.now c.deref.result.now c.number_of.ensures c.in-Some.ensures.value
    c.deref.ensures
    c.within_page.ensures.is c.requires.whole c.requires.one)

pub returns-in-None-clause-is : goal.returns-in-None-clause-is
returns-in-None-clause-is c =
    let ys = c.args.bytes.now in
    sym (ap (differing 0 ys)
    (missing_is c.args.pages.now c.args.first (length ys) c.number_of.result
    c.number_of.ensures c.in-None.ensures.value c.requires.one) ∙ nothing_differs (length ys) 0 ys)
