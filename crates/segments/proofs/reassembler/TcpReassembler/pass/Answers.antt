use Rattle.std.proofs.Common.{◌≡◌, ◌≤◌, ◌+◌, ◌-◌, ◌++◌, length, drop, ap, sym, ◌∙◌, subst, arith, min}
use Rattle.std.proofs.lemmas.List.{drop_min}
use Rattle.segments.specs.Cells.{run, without_front}
use Rattle.segments.proofs.HeldLemmas.{none_front, all_window, pass_room, skipped}
use Rattle.segments.proofs.reassembler.TcpReassembler.pass.Goals as goal

pub drop_front-requires : goal.drop_front-requires
drop_front-requires c =
    let i = c.self.inside in
    let n = c.args.missed in
    let empty = ap (λ h. run h.cells) c.self.view_is ∙ c.requires.empty in
    let none = none_front i.start i.taken i.limit i.front.items i.window c.self.invariant empty in
    let all = sym (ap (λ h. length h.cells) c.self.view_is)
    ∙ ap length (all_window i.start i.front.items i.window none) in
    let few = subst (λ k. n ≤ k) all c.requires.within in
    let front_is =
    c.in-Ok.ensures.out
    ∙ ap (λ k. i.front.items ++ run (drop k i.window))
    (c.min-from.ensures ∙ ap (min n) c.len.ensures)
    ∙ ap (λ r. i.front.items ++ run r) (drop_min n i.window) in
    let o = i.front.ok.0 in
    let o' = c.append_run.new.out.ok.0 in
    let l = c.len-in-Ok.ensures in
    let l' = c.len-held.ensures in
    let room = pass_room n i.front.items c.append_run.new.out.items i.window few front_is in
    omega (arith, room, o, o', l, l')

pub invariant_of-self : goal.invariant_of-self
invariant_of-self c =
    let i = c.self.inside in
    let n = c.args.missed in
    let empty = ap (λ h. run h.cells) c.self.view_is ∙ c.requires.empty in
    let none = none_front i.start i.taken i.limit i.front.items i.window c.self.invariant empty in
    let all = sym (ap (λ h. length h.cells) c.self.view_is)
    ∙ ap length (all_window i.start i.front.items i.window none) in
    let few = subst (λ k. n ≤ k) all c.requires.within in
    let front_is =
    c.in-Ok.ensures.out
    ∙ ap (λ k. i.front.items ++ run (drop k i.window))
    (c.min-from.ensures ∙ ap (min n) c.len.ensures)
    ∙ ap (λ r. i.front.items ++ run r) (drop_min n i.window) in
    let o = i.front.ok.0 in
    let o' = c.append_run.new.out.ok.0 in
    let l = c.len-in-Ok.ensures in
    let l' = c.len-held.ensures in
    let m_is : n + (c.len-in-Ok.result - c.len-held.result)
    ≡ n + (length c.append_run.new.out.items - length i.front.items) =
    omega (arith, o, o', l, l') in
    (skipped i.first i.limit i.start i.taken n _ i.front.items c.append_run.new.out.items i.window
    c.drop_front.new.self
    c.self.invariant none few front_is m_is c.drop_front.ensures).sound

pub returns-in-Ok-clause-ok : goal.returns-in-Ok-clause-ok
returns-in-Ok-clause-ok c =
    let i = c.self.inside in
    let n = c.args.missed in
    let empty = ap (λ h. run h.cells) c.self.view_is ∙ c.requires.empty in
    let none = none_front i.start i.taken i.limit i.front.items i.window c.self.invariant empty in
    let all = sym (ap (λ h. length h.cells) c.self.view_is)
    ∙ ap length (all_window i.start i.front.items i.window none) in
    let few = subst (λ k. n ≤ k) all c.requires.within in
    let front_is =
    c.in-Ok.ensures.out
    ∙ ap (λ k. i.front.items ++ run (drop k i.window))
    (c.min-from.ensures ∙ ap (min n) c.len.ensures)
    ∙ ap (λ r. i.front.items ++ run r) (drop_min n i.window) in
    let o = i.front.ok.0 in
    let o' = c.append_run.new.out.ok.0 in
    let l = c.len-in-Ok.ensures in
    let l' = c.len-held.ensures in
    let m_is : n + (c.len-in-Ok.result - c.len-held.result)
    ≡ n + (length c.append_run.new.out.items - length i.front.items) =
    omega (arith, o, o', l, l') in
    (skipped i.first i.limit i.start i.taken n _ i.front.items c.append_run.new.out.items i.window
    c.drop_front.new.self
    c.self.invariant none few front_is m_is c.drop_front.ensures).held
    ∙ ap (without_front n) c.self.view_is
