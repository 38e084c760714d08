use Rattle.std.proofs.Common.{◌∙◌, arith}
use Rattle.capture.proofs.SumLemmas.{sixteen_bytes}
use Rattle.capture.proofs.checksum.sum_of_sixteens.Goals as goal

pub sixteens-preserved : goal.sixteens-preserved
sixteens-preserved c = record {
  same =
      sixteen_bytes c.sixteens.first c.sixteens.second c.sixteens.third c.sixteens.fourth
      c.four-first.result
      c.four-second.result c.four-third.result c.four-fourth.result c.sixteens.rest.now
      (omega arith) (cc) (cc) (cc) (cc)
      ∙ c.sixteens.invariant.same;
  first = omega (arith, c.sixteens.invariant.first, c.four-first.ensures.bound);
  second = omega (arith, c.sixteens.invariant.second, c.four-second.ensures.bound);
  third = omega (arith, c.sixteens.invariant.third, c.four-third.ensures.bound);
  fourth = omega (arith, c.sixteens.invariant.fourth, c.four-fourth.ensures.bound);
}
