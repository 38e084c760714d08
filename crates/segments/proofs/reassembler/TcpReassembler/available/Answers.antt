use Rattle.std.proofs.Common.{drop, ap, sym, ◌∙◌}
use Rattle.std.proofs.lemmas.List.{take_rest}
use Rattle.segments.specs.Cells.{run}
use Rattle.segments.proofs.HeldLemmas.{run_held}
use Rattle.segments.proofs.reassembler.TcpReassembler.available.Goals as goal

pub returns : goal.returns
returns c =
    let i = c.self.inside in
    take_rest c.deref.result.now i.start
    ∙ ap (drop i.start) c.deref.ensures.value
    ∙ sym (run_held i.start i.taken i.limit i.front.items i.window c.self.invariant)
    ∙ ap (λ h. run h.cells) c.self.view_is
