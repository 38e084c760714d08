use Rattle.std.proofs.Common.{ap, sym, ◌∙◌}
use Rattle.segments.specs.Cells.{known_behind}
use Rattle.segments.proofs.HeldLemmas.{behind_is}
use Rattle.segments.proofs.reassembler.TcpReassembler.held_behind.Goals as goal

pub returns-clause-is : goal.returns-clause-is
returns-clause-is c =
    let i = c.self.inside in
    c.held.ensures.is
    ∙ sym (behind_is i.start i.taken i.limit i.front.items i.window c.self.invariant)
    ∙ ap (λ h. known_behind h.cells) c.self.view_is
