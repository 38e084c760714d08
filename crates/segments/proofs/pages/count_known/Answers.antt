use Rattle.std.proofs.Common.{arith}
use Rattle.segments.proofs.PageLemmas.{known_split_at}
use Rattle.segments.proofs.pages.count_known.Goals as goal

pub loop-done-preserved : goal.loop-done-preserved
loop-done-preserved c =
    let inv = c.loop-done.invariant in
    let most = c.min-most.ensures in
    let more = c.count_in_page-count.ensures in
    let split = known_split_at c.loop-done.done c.min-most.result c.args.first c.args.pages.now in (
      omega (arith, inv.0, more.within),
      omega (arith, inv.1, most, c.loop-done-test.true),
      omega (arith, inv.2, more.is, split),
    )
