use Rattle.std.proofs.Common.{◌≡◌, ◌++◌, length, ◌∙◌, ap, subst, arith}
use Rattle.std.specs.Prelude.{OnOk}
use Rattle.segments.specs.Places.{over}
use Rattle.segments.proofs.PageLemmas.{places_length}
use Rattle.segments.proofs.SpanLemmas.{over_within}
use Rattle.segments.proofs.window.Window.append_over.Goals as goal

pub append_over-requires-clause-small : goal.append_over-requires-clause-small
append_over-requires-clause-small c =
    let i = c.self.inside in
    let l = places_length i.len i.begin i.pages in
    let same = ap length c.self.view_is in
    let small = c.self.invariant.small in
    omega (arith, l, same, small, c.requires)

pub returns-clause-out : goal.returns-clause-out
returns-clause-out c =
    let i = c.self.inside in
    let ys = c.args.bytes.now in
    let l = places_length i.len i.begin i.pages in
    let same = ap length c.self.view_is in
    subst (λ v. OnOk c.append_over.result (c.append_over.new.out.items ≡ c.args.out.now.items ++ v))
    (over_within i.len i.begin i.pages ys (omega (arith, l, same, c.requires))
    ∙ ap (λ v. over v ys) c.self.view_is)
    c.append_over.ensures.out
