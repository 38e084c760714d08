use Rattle.std.proofs.Common.{ap, sym, ◌∙◌, arith}
use Rattle.segments.specs.Cells.{gap}
use Rattle.segments.proofs.HeldLemmas.{gap_front}
use Rattle.segments.proofs.reassembler.TcpReassembler.missing.Goals as goal

pub returns-then-len-self : goal.returns-then-len-self
returns-then-len-self c =
    let i = c.self.inside in
    let o = i.front.ok.0 in
    let l = c.len.ensures in
    let more = c.if-len-self.true in
    sym (gap_front i.start i.front.items i.window (omega (arith, o, l, more)))
    ∙ ap (λ h. gap h.cells) c.self.view_is
