use Rattle.std.proofs.Common.{◌≡◌, ◌+◌, ◌-◌, ◌++◌, length, drop, take, sym, ◌∙◌, ap, subst, arith}
use Rattle.std.specs.Prelude.{OnOk}
use Rattle.segments.specs.Cells.{known}
use Rattle.segments.specs.Places.{over}
use Rattle.segments.proofs.PartLemmas.{part_is}
use Rattle.segments.proofs.page.Page.append_over.Goals as goal

pub returns-clause-out : goal.returns-clause-out
returns-clause-out c =
    let i = c.self.inside in
    let a = c.args.at in
    let ys = c.args.new.now in
    let n = length ys in
    subst (λ v. OnOk c.append_standing.result
    (c.append_standing.new.out.items ≡ c.args.out.now.items ++ over v ys))
    (part_is i.marks i.bytes a (a + n - a) n (omega arith)
    ∙ ap (λ v. take n (drop a v)) c.self.view_is)
    c.append_standing.ensures.out

pub append_standing-requires-clause-standing : goal.append_standing-requires-clause-standing
append_standing-requires-clause-standing c =
    let i = c.self.inside in
    let a = c.args.at in
    let n = length c.args.new.now in
    c.known-standing.ensures.is
    ∙ ap (λ v. known (take n (drop a v))) (sym c.self.view_is)
    ∙ ap known (sym (part_is i.marks i.bytes a (a + n - a) n (omega arith)))
