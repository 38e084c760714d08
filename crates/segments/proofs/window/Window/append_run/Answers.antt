use Rattle.std.proofs.Common.{◌≡◌, ◌++◌, length, drop, sym, ◌∙◌, ap, subst, arith}
use Rattle.std.specs.Prelude.{OnOk}
use Rattle.segments.specs.Cells.{run}
use Rattle.segments.proofs.PageLemmas.{places_drop, places_length}
use Rattle.segments.proofs.window.Window.append_run.Goals as goal

pub overflow_add-self-inside : goal.overflow_add-self-inside
overflow_add-self-inside c =
    let i = c.self.inside in
    let l = places_length i.len i.begin i.pages in
    let same = ap length c.self.view_is in
    let small = c.self.invariant.small in
    omega (arith, l, same, small, c.requires)

pub overflow_sub-self-inside : goal.overflow_sub-self-inside
overflow_sub-self-inside c =
    let i = c.self.inside in
    let l = places_length i.len i.begin i.pages in
    let same = ap length c.self.view_is in
    let small = c.self.invariant.small in
    omega (arith, l, same, small, c.requires)

pub append_front-requires-clause-small : goal.append_front-requires-clause-small
append_front-requires-clause-small c =
    let i = c.self.inside in
    let l = places_length i.len i.begin i.pages in
    let same = ap length c.self.view_is in
    let small = c.self.invariant.small in
    omega (arith, l, same, small, c.requires)

pub returns-clause-out : goal.returns-clause-out
returns-clause-out c =
    let i = c.self.inside in
    subst (λ v. OnOk c.append_front.result
    (c.append_front.new.out.items ≡ c.args.out.now.items ++ run v))
    (sym (places_drop c.args.from i.len i.begin i.pages) ∙ ap (drop c.args.from) c.self.view_is)
    c.append_front.ensures.out
