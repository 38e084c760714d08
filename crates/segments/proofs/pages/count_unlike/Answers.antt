use Rattle.std.proofs.Common.{◌≡◌, ◌≤◌, ◌+◌, ◌-◌, length, arith}
use Rattle.segments.proofs.SpanLemmas.{part_long, unlike_more}
use Rattle.segments.proofs.pages.count_unlike.Goals as goal

pub loop-done-preserved : goal.loop-done-preserved
loop-done-preserved c =
    let inv = c.loop-done.invariant in
    let ys = c.args.bytes.now in
    let done = c.loop-done.done in
    let most = c.min-most.result in
    let most_is = c.min-most.ensures in
    let more = c.unlike_in_page-count.ensures in
    let same : done + most - done ≡ most = omega arith in
    let fits : done + most ≤ length ys = omega (arith, inv.1, most_is, c.loop-done-test.true) in
    let long = part_long ys done most (done + most - done) same fits in (
      omega (arith, inv.0, more.within, long),
      fits,
      unlike_more ys c.args.first done most (done + most - done) c.loop-done.count
          c.unlike_in_page-count.result
          c.args.pages.now same fits inv.2 more.is,
    )
