use Rattle.std.proofs.Common.{◌≡◌, ◌+◌, ◌-◌, length, ap, sym, ◌∙◌, arith}
use Rattle.segments.specs.Cells.{wanted}
use Rattle.segments.proofs.HeldLemmas.{wanted_is}
use Rattle.segments.proofs.reassembler.TcpReassembler.wanted.Goals as goal

pub overflow_add-result : goal.overflow_add-result
overflow_add-result c =
    let i = c.self.inside in
    let l = c.len.ensures in
    let o = i.front.ok.0 in
    let small = (wanted_is i.first i.limit i.start i.taken i.front.items i.window
    c.self.invariant).1 in
    omega (arith, l, o, small)

pub returns-clause-is : goal.returns-clause-is
returns-clause-is c =
    let i = c.self.inside in
    let l = c.len.ensures in
    let o = i.front.ok.0 in
    let same : i.taken + (c.len.result - i.start) ≡ i.taken + (length i.front.items - i.start) =
    omega (arith, l, o) in
    same ∙ sym (wanted_is i.first i.limit i.start i.taken i.front.items i.window c.self.invariant).0
    ∙ ap wanted c.self.view_is

pub returns-clause-small : goal.returns-clause-small
returns-clause-small c =
    let i = c.self.inside in
    let l = c.len.ensures in
    let o = i.front.ok.0 in
    let small = (wanted_is i.first i.limit i.start i.taken i.front.items i.window
    c.self.invariant).1 in
    omega (arith, l, o, small)
