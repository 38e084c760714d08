use Rattle.std.proofs.Common.{◌≤◌, length, ap, arith, rules, length-append}
use Rattle.log_formats.proofs.text_cache.short_numbers.Goals as goal

pub returns-then-len-ge-MOST_NUMBERS : goal.returns-then-len-ge-MOST_NUMBERS
returns-then-len-ge-MOST_NUMBERS g c =
    let claim : g.claim c.lifetimes = search rules in
    let first = (g.met.T.Coded c.lifetimes claim).first c.loop-one.one-iterator.bytes.now
    c.next.new.self.bytes.now c.in-Some.one c.in-Some.ensures.steps in
    let many : 128 ≤ length c.loop-one.numbers.items = search rules in
    omega (
      arith,
      many,
      ap length c.loop-one.invariant.same,
      length-append c.loop-one.numbers.items
          (g.T.Coded.numbers c.loop-one.one-iterator.bytes.now),
      ap length first,
    )
