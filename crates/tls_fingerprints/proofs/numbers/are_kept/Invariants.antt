use Rattle.std.proofs.Common.{◌≡◌}
use Rattle.layouts.specs.Items.{items_in}
use Rattle.layouts.specs.Layout.{number}
use Rattle.tls_fingerprints.specs.Numbers.{without_grease}
use Rattle.tls_fingerprints.proofs.numbers.are_kept.Given as goal

abbrev pub invariant-loop-n : goal.invariant-loop-n
invariant-loop-n l = record {
  can_next : (goal.iterator-loop-n).can_next l.n-iterator;
  is_finite : (goal.iterator-loop-n).is_finite l.n-iterator;
  same : without_grease (items_in (number 2) l.n-iterator.bytes.now) ≡ l.left
      → without_grease (items_in (number 2) l.fn.numbers.bytes.now) ≡ l.fn.known;
}
