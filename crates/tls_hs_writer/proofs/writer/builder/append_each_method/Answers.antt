use Rattle.std.proofs.Common.{arith, ◌<◌, ◌^◌}
use Rattle.layouts.proofs.TextLemmas.{numbers_behind, all_behind}
use Rattle.tls_hs_writer.proofs.writer.builder.append_each_method.Goals as goal

pub loop-method-preserved : goal.loop-method-preserved
loop-method-preserved c = record {
  items =
      numbers_behind 1 (λ x. x.0) c.args.methods.now c.loop-method.method-index (record { 0 = 0 })
      c.args.out.now.items c.loop-method.out.items c.append1.new.out.items c.loop-method-test.true
      c.loop-method.invariant.items c.append1.ensures.items;
  range =
      all_behind (λ x. x < 256 ^ 1) (λ x. x.0) c.args.methods.now c.loop-method.method-index
      (record { 0 = 0 })
      c.loop-method-test.true c.loop-method.invariant.range c.append1.ensures.range;
  count = omega (arith, c.append1.ensures.len);
  room = omega (arith, c.append1.ensures.capacity);
}
