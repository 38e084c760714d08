use Rattle.std.proofs.Common.{length, ap, arith}
use Rattle.segments.specs.Pages.{places}
use Rattle.segments.proofs.CellLemmas.{known_low}
use Rattle.segments.proofs.window.Window.held.Goals as goal

pub returns-clause-within : goal.returns-clause-within
returns-clause-within c =
    let i = c.self.inside in
    let h = c.self.invariant.held_is in
    let low = known_low (places i.len i.begin i.pages) in
    let same = ap length c.self.view_is in
    omega (arith, h, low, same)
