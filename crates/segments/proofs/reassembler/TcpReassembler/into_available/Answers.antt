use Rattle.std.proofs.Common.{ap, sym, ◌∙◌}
use Rattle.segments.specs.Cells.{run}
use Rattle.segments.proofs.HeldLemmas.{run_held}
use Rattle.segments.proofs.reassembler.TcpReassembler.into_available.Goals as goal

pub returns : goal.returns
returns c =
    let i = c.self.inside in
    c.drop_first.ensures
    ∙ sym (run_held i.start i.taken i.limit i.front.items i.window c.self.invariant)
    ∙ ap (λ h. run h.cells) c.self.view_is
