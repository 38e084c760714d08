use Rattle.std.proofs.Common.{◌≤◌, ◌+◌, ◌^◌, length, ap, sym, ◌∙◌, subst}
use Rattle.segments.specs.Cells.{wanted, with_located}
use Rattle.segments.proofs.HeldLemmas.{wanted_is, held_more}
use Rattle.segments.proofs.reassembler.TcpReassembler.hold.Goals as goal

pub invariant_of-self-2 : goal.invariant_of-self-2
invariant_of-self-2 c =
    let i = c.self.inside in
    let ys = c.args.bytes.now in
    let d = c.args.ahead in
    let there = sym (ap wanted c.self.view_is)
    ∙ (wanted_is i.first i.limit i.start i.taken i.front.items i.window c.self.invariant).0 in
    let small = subst (λ n. n + d + length ys ≤ 2 ^ 62) there c.requires.small in
    let near = subst (λ n. d + length ys ≤ n) (sym (ap (λ h. h.limit) c.self.view_is))
    c.requires.near in
    (held_more i.first i.limit i.start i.taken i.front.items i.window c.fill.new.self d ys
    c.self.invariant
    c.requires.ahead c.requires.some near small c.in_ok-fill.ensures.ok).sound

pub returns-clause-ok : goal.returns-clause-ok
returns-clause-ok c =
    let i = c.self.inside in
    let ys = c.args.bytes.now in
    let d = c.args.ahead in
    let there = sym (ap wanted c.self.view_is)
    ∙ (wanted_is i.first i.limit i.start i.taken i.front.items i.window c.self.invariant).0 in
    let small = subst (λ n. n + d + length ys ≤ 2 ^ 62) there c.requires.small in
    let near = subst (λ n. d + length ys ≤ n) (sym (ap (λ h. h.limit) c.self.view_is))
    c.requires.near in
    (held_more i.first i.limit i.start i.taken i.front.items i.window c.fill.new.self d ys
    c.self.invariant
    c.requires.ahead c.requires.some near small c.in_ok-fill.ensures.ok).held
    ∙ ap (with_located (d, ys)) c.self.view_is
