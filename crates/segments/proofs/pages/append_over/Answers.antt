use Rattle.std.proofs.Common.{◌≡◌, ◌≤◌, ◌+◌, ◌-◌, length, arith}
use Rattle.segments.proofs.SpanLemmas.{over_more}
use Rattle.segments.proofs.pages.append_over.Goals as goal

pub loop-done-preserved : goal.loop-done-preserved
loop-done-preserved c =
    let inv = c.loop-done.invariant in
    let ys = c.args.bytes.now in
    let done = c.loop-done.done in
    let most = c.min-most.result in
    let most_is = c.min-most.ensures in
    let same : done + most - done ≡ most = omega arith in
    let fits : done + most ≤ length ys = omega (arith, inv.0, most_is, c.loop-done-test.true) in (
      fits,
      over_more c.loop-done.out.items c.append_over_page.new.out.items c.args.out.now.items _ ys
          c.args.first done most
          (done + most - done) c.args.pages.now same fits inv.1
          c.in_ok-append_over_page.ensures.out,
    )
