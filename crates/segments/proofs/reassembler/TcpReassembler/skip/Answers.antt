use Rattle.std.proofs.Common.{arith}
use Rattle.segments.proofs.CellLemmas.{gap_first, gap_low}
use Rattle.segments.proofs.reassembler.TcpReassembler.skip.Goals as goal

pub pass-requires-clause-empty : goal.pass-requires-clause-empty
pass-requires-clause-empty c =
    let is = c.missing-missed.ensures in
    let some = c.if-missed-eq0.false in
    gap_first c.args.self.now.cells (omega (arith, is, some))

pub pass-requires-clause-within : goal.pass-requires-clause-within
pass-requires-clause-within c =
    let is = c.missing-missed.ensures in
    let low = gap_low c.args.self.now.cells in
    omega (arith, is, low)
