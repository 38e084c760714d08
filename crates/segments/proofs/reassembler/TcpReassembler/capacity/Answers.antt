use Rattle.std.proofs.Common.{ap, arith, length, sym, ◌∙◌, ◌≡◌}
use Rattle.segments.specs.Cells.{known, known_behind}
use Rattle.segments.proofs.HeldLemmas.{behind_is}
use Rattle.segments.proofs.reassembler.TcpReassembler.capacity.Goals as goal

pub returns : goal.returns
returns c =
    let i = c.self.inside in
    let in_order = ap length c.available.ensures in
    let behind : known i.window ≡ known_behind c.args.self.now.cells =
    sym (behind_is i.start i.taken i.limit i.front.items i.window c.self.invariant)
    ∙ ap (λ h. known_behind h.cells) c.self.view_is in
    omega (arith, in_order, behind)
