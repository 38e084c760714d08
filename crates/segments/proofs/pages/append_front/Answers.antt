use Rattle.std.proofs.Common.{◌≤◌, ◌+◌, arith}
use Rattle.segments.proofs.SpanLemmas.{front_off, front_on}
use Rattle.segments.proofs.pages.append_front.Goals as goal

pub returns-then-front-most-clause-out : goal.returns-then-front-most-clause-out
returns-then-front-most-clause-out c =
    let inv = c.loop-done.invariant in
    let most_is = c.min-most.ensures in
    front_off c.loop-done.out.items c.extend_from_slice.new.self.items c.args.out.now.items
    c.front_in_page-front.result.now _ c.args.n c.args.first c.loop-done.done c.min-most.result
    c.args.pages.now
    (omega (arith, inv.0, most_is, c.loop-done-test.true)) inv.1 c.front_in_page-front.ensures
    c.if-front-most.true
    c.in_ok-extend_from_slice.ensures.items

pub loop-done-preserved : goal.loop-done-preserved
loop-done-preserved c =
    let inv = c.loop-done.invariant in
    let most_is = c.min-most.ensures in
    let fits : c.loop-done.done + c.min-most.result ≤ c.args.n =
    omega (arith, inv.0, most_is, c.loop-done-test.true) in (
      fits,
      front_on c.loop-done.out.items c.extend_from_slice.new.self.items c.args.out.now.items
          c.front_in_page-front.result.now _ c.args.n c.args.first c.loop-done.done
          c.min-most.result c.args.pages.now
          fits inv.1 c.front_in_page-front.ensures c.if-front-most.false
          c.in_ok-extend_from_slice.ensures.items,
    )
