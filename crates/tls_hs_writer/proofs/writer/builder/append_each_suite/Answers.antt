use Rattle.std.proofs.Common.{arith, ◌<◌, ◌^◌}
use Rattle.layouts.proofs.TextLemmas.{numbers_behind, all_behind}
use Rattle.tls_hs_writer.proofs.writer.builder.append_each_suite.Goals as goal

pub loop-suite-preserved : goal.loop-suite-preserved
loop-suite-preserved c = record {
  items =
      numbers_behind 2 (λ x. x.0) c.args.suites.now c.loop-suite.suite-index (record { 0 = 0 })
      c.args.out.now.items
      c.loop-suite.out.items c.append2.new.out.items c.loop-suite-test.true
      c.loop-suite.invariant.items
      c.append2.ensures.items;
  range =
      all_behind (λ x. x < 256 ^ 2) (λ x. x.0) c.args.suites.now c.loop-suite.suite-index
      (record { 0 = 0 })
      c.loop-suite-test.true c.loop-suite.invariant.range c.append2.ensures.range;
  count = omega (arith, c.append2.ensures.len);
  room = omega (arith, c.append2.ensures.capacity);
}
