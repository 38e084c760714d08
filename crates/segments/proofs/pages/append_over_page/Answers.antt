use Rattle.std.proofs.Common.{◌++◌, length, sym, ◌∙◌, ap}
use Rattle.segments.specs.Places.{over}
use Rattle.segments.proofs.PageMapLemmas.{found_is, missing_is, nothing_over}
use Rattle.segments.proofs.pages.append_over_page.Goals as goal

pub returns-in_ok-append_over-in-Some-clause-out : goal.returns-in_ok-append_over-in-Some-clause-out
returns-in_ok-append_over-in-Some-clause-out c =
    let ys = c.args.bytes.now in
    c.in_ok-append_over-in-Some.ensures.out
    ∙ ap (λ v. c.args.out.now.items ++ over v ys)
    (found_is c.args.pages.now c.args.first (length ys) c.number_of.result c.within_page.result
    c.in-Some.page.now c.deref.result.now c.number_of.ensures c.in-Some.ensures.value
    c.deref.ensures
    c.within_page.ensures.is c.requires.whole c.requires.one)

pub returns-in_ok-extend_from_slice-in-None-clause-out
    : goal.returns-in_ok-extend_from_slice-in-None-clause-out
returns-in_ok-extend_from_slice-in-None-clause-out c =
    let ys = c.args.bytes.now in
    c.in_ok-extend_from_slice-in-None.ensures.items
    ∙ ap (λ r. c.args.out.now.items ++ r)
    (sym (ap (λ v. over v ys)
    (missing_is c.args.pages.now c.args.first (length ys) c.number_of.result
    c.number_of.ensures c.in-None.ensures.value c.requires.one) ∙ nothing_over ys))
