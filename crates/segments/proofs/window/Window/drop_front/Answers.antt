use Rattle.std.proofs.Common.{◌+◌, ◌-◌, length, drop, sym, ◌∙◌, ap, arith}
use Rattle.std.proofs.lemmas.List.{drop_all}
use Rattle.segments.proofs.PageLemmas.{few_known, fewer, places_drop, places_length, places_same}
use Rattle.segments.proofs.window.Window.drop_front.Goals as goal

pub returns-then-n-self : goal.returns-then-n-self
returns-then-n-self c =
    let i = c.self.inside in
    let l = places_length i.len i.begin i.pages in
    let same = ap length c.self.view_is in
    let all = c.if-n-self.true in
    c.drop.view_is ∙ c.new.ensures
    ∙ sym (drop_all c.args.n c.args.self.now (omega (arith, l, same, all)))

pub overflow_add-begin : goal.overflow_add-begin
overflow_add-begin c =
    let i = c.self.inside in
    let l = places_length i.len i.begin i.pages in
    let same = ap length c.self.view_is in
    let small = c.self.invariant.small in
    omega (arith, l, same, small, c.requires)

pub count_known-requires-clause-small : goal.count_known-requires-clause-small
count_known-requires-clause-small c =
    let i = c.self.inside in
    let l = places_length i.len i.begin i.pages in
    let same = ap length c.self.view_is in
    let small = c.self.invariant.small in
    omega (arith, l, same, small, c.requires)

pub overflow_sub-self : goal.overflow_sub-self
overflow_sub-self c =
    let i = c.self.inside in
    let l = places_length i.len i.begin i.pages in
    let same = ap length c.self.view_is in
    few_known i.begin i.len i.held c.args.n c.count_known.result i.pages c.self.invariant
    (omega (arith, l, same, c.requires)) c.count_known.ensures.is

pub overflow_sub-self-2 : goal.overflow_sub-self-2
overflow_sub-self-2 c =
    let i = c.self.inside in
    let l = places_length i.len i.begin i.pages in
    let same = ap length c.self.view_is in
    omega (arith, l, same, c.requires)

pub invariant_of-self-2 : goal.invariant_of-self-2
invariant_of-self-2 c =
    let i = c.self.inside in
    let l = places_length i.len i.begin i.pages in
    let same = ap length c.self.view_is in
    fewer i.begin i.len i.held c.args.n c.count_known.result i.pages c.remove_pages.new.pages
    c.self.invariant
    c.remove_pages.ensures.whole c.remove_pages.ensures.places
    (omega (arith, l, same, c.requires)) c.count_known.ensures.is

pub returns : goal.returns
returns c =
    let i = c.self.inside in
    places_same (i.len - c.args.n) (i.begin + c.args.n) i.pages c.remove_pages.new.pages
    c.remove_pages.ensures.places
    ∙ sym (places_drop c.args.n i.len i.begin i.pages)
    ∙ ap (drop c.args.n) c.self.view_is
