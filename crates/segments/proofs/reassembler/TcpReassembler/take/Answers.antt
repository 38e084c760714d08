use Rattle.std.proofs.Common.{◌≤◌, length, ap, sym, ◌∙◌, subst, arith}
use Rattle.std.proofs.lemmas.List.{length-drop}
use Rattle.segments.specs.Cells.{run, without_front}
use Rattle.segments.proofs.HeldLemmas.{run_held, taken_front, wanted_is}
use Rattle.segments.proofs.reassembler.TcpReassembler.take.Goals as goal

pub overflow_add-self : goal.overflow_add-self
overflow_add-self c =
    let i = c.self.inside in
    let front = ap (λ h. length (run h.cells)) (sym c.self.view_is)
    ∙ ap length (run_held i.start i.taken i.limit i.front.items i.window c.self.invariant) in
    let few = c.requires in
    let len = length-drop i.start i.front.items in
    let ok = i.front.ok.0 in
    let range = c.self.ranges in
    omega (arith, front, few, len, ok)

pub overflow_add-self-2 : goal.overflow_add-self-2
overflow_add-self-2 c =
    let i = c.self.inside in
    let front = ap (λ h. length (run h.cells)) (sym c.self.view_is)
    ∙ ap length (run_held i.start i.taken i.limit i.front.items i.window c.self.invariant) in
    let few = c.requires in
    let len = length-drop i.start i.front.items in
    let small = (wanted_is i.first i.limit i.start i.taken i.front.items i.window
    c.self.invariant).1 in
    omega (arith, front, few, len, small)

pub invariant_of-self : goal.invariant_of-self
invariant_of-self c =
    let i = c.self.inside in
    let front = ap (λ h. run h.cells) (sym c.self.view_is)
    ∙ run_held i.start i.taken i.limit i.front.items i.window c.self.invariant in
    (taken_front i.first i.limit i.start i.taken c.args.n i.front.items i.window c.self.invariant
    (subst (λ f. c.args.n ≤ length f) front c.requires)).0

pub returns : goal.returns
returns c =
    let i = c.self.inside in
    let front = ap (λ h. run h.cells) (sym c.self.view_is)
    ∙ run_held i.start i.taken i.limit i.front.items i.window c.self.invariant in
    (taken_front i.first i.limit i.start i.taken c.args.n i.front.items i.window c.self.invariant
    (subst (λ f. c.args.n ≤ length f) front c.requires)).1
    ∙ ap (without_front c.args.n) c.self.view_is
