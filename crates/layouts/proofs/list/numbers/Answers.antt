use Rattle.std.proofs.Common.{arith, rules}
use Rattle.layouts.specs.Layout.{number}
use Rattle.layouts.proofs.TimesLemmas.{times_push}
use Rattle.layouts.proofs.list.numbers.Goals as goal

pub loop-preserved : goal.loop-preserved
loop-preserved g c = (
  rw c.push_reserved.ensures.items
      (times_push g.T.Number.value
      (number g.T.Number.WIDTH) c.args.i.now c.loop.counter c.loop.numbers.items _
      c.read_present-number.result.1
      c.read_present-number.result.0 c.loop.invariant.0 c.read_present-number.ensures.read),
  (search rules, search rules),
  omega arith,
)
