use Rattle.std.proofs.Common.{◌≡◌, ◌≤◌, ◌+◌, ◌-◌, ◌^◌, length, drop, ap, sym, ◌∙◌, subst, arith, min}
use Rattle.segments.specs.Cells.{wanted, with_located}
use Rattle.segments.proofs.HeldLemmas.{wanted_is, appended}
use Rattle.segments.proofs.reassembler.TcpReassembler.append.Goals as goal

pub invariant_of-self : goal.invariant_of-self
invariant_of-self c =
    let i = c.self.inside in
    let ys = c.args.bytes.now in
    let there = sym (ap wanted (c.self.view_is ∙ c.make_room.ensures))
    ∙ (wanted_is i.first i.limit i.start i.taken i.front.items i.window c.self.invariant).0 in
    let small = subst (λ n. n + length ys ≤ 2 ^ 62) there c.requires in
    let n = c.len.result - c.len-held.result in
    let o = i.front.ok.0 in
    let o' = c.append_joined.new.out.ok.0 in
    let l = c.len.ensures in
    let l' = c.len-held.ensures in
    let n_is : n ≡ length c.append_joined.new.out.items - length i.front.items =
    omega (arith, o, o', l, l') in
    (appended i.first i.limit i.start i.taken i.front.items c.append_joined.new.out.items i.window
    c.drop_front.new.self
    ys n c.self.invariant small
    c.in-Ok.ensures.out
    n_is
    (c.drop_front.ensures
    ∙ ap (λ k. drop k i.window) (c.min-count.ensures ∙ ap (min n) c.len-in-Ok.ensures))).sound

pub returns-in-Ok-clause-ok : goal.returns-in-Ok-clause-ok
returns-in-Ok-clause-ok c =
    let i = c.self.inside in
    let ys = c.args.bytes.now in
    let there = sym (ap wanted (c.self.view_is ∙ c.make_room.ensures))
    ∙ (wanted_is i.first i.limit i.start i.taken i.front.items i.window c.self.invariant).0 in
    let small = subst (λ n. n + length ys ≤ 2 ^ 62) there c.requires in
    let n = c.len.result - c.len-held.result in
    let o = i.front.ok.0 in
    let o' = c.append_joined.new.out.ok.0 in
    let l = c.len.ensures in
    let l' = c.len-held.ensures in
    let n_is : n ≡ length c.append_joined.new.out.items - length i.front.items =
    omega (arith, o, o', l, l') in
    (appended i.first i.limit i.start i.taken i.front.items c.append_joined.new.out.items i.window
    c.drop_front.new.self
    ys n c.self.invariant small
    c.in-Ok.ensures.out
    n_is
    (c.drop_front.ensures
    ∙ ap (λ k. drop k i.window) (c.min-count.ensures ∙ ap (min n) c.len-in-Ok.ensures))).held
    ∙ ap (with_located (0, ys)) (c.self.view_is ∙ c.make_room.ensures)
