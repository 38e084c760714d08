use Rattle.std.proofs.Common.{◌≡◌}
use Rattle.log_formats.specs.Cached.{sum_behind}
use Rattle.log_formats.proofs.text_cache.set_of.Given as goal

abbrev pub invariant-loop-one : goal.invariant-loop-one
invariant-loop-one g l = record {
  can_next : (goal.iterator-loop-one g).can_next l.one-iterator;
  is_finite : (goal.iterator-loop-one g).is_finite l.one-iterator;
  same : sum_behind l.sum (g.T.Coded.numbers l.one-iterator.bytes.now)
      ≡ sum_behind 0 (g.T.Coded.numbers l.fn.list.bytes.now);
}
