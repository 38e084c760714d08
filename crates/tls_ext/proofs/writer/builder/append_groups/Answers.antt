use Rattle.std.proofs.Common.{arith, ◌<◌, ◌^◌}
use Rattle.layouts.proofs.TextLemmas.{numbers_behind, all_behind}
use Rattle.tls_ext.proofs.writer.builder.append_groups.Goals as goal

pub loop-group-preserved : goal.loop-group-preserved
loop-group-preserved c = record {
  items = numbers_behind 2 (λ x. x.0) c.args.groups.now c.loop-group.group-index
      (record { 0 = 0 }) c.args.out.now.items c.loop-group.out.items c.append2.new.out.items
      c.loop-group-test.true
      c.loop-group.invariant.items c.append2.ensures.items;
  range = all_behind (λ x. x < 256 ^ 2) (λ x. x.0) c.args.groups.now c.loop-group.group-index
      (record { 0 = 0 }) c.loop-group-test.true c.loop-group.invariant.range
      c.append2.ensures.range;
  count = omega (arith, c.append2.ensures.len);
  room = omega (arith, c.append2.ensures.capacity);
}
