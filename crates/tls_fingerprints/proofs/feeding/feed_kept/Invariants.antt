use Rattle.std.proofs.Common.{ℕ, List, ◌++◌, decimal}
use Rattle.md5.specs.Md5.{Holds}
use Rattle.layouts.specs.Items.{items_in}
use Rattle.layouts.specs.Layout.{number}
use Rattle.tls_fingerprints.specs.Numbers.{dashed, without_grease}
use Rattle.tls_fingerprints.proofs.JoinLemmas.{IsAhead, left_text}
use Rattle.tls_fingerprints.proofs.feeding.feed_kept.Given as goal

abbrev pub invariant-loop-n : goal.invariant-loop-n
invariant-loop-n l = record {
  can_next : (goal.iterator-loop-n).can_next l.n-iterator;
  is_finite : (goal.iterator-loop-n).is_finite l.n-iterator;
  ahead : (m : List ℕ) → Holds l.initial.text m → IsAhead Holds l.text
      (m ++ dashed (without_grease (items_in (number 2) l.fn.numbers.bytes.now)))
      (left_text 45 decimal l.is_first
      (without_grease (items_in (number 2) l.n-iterator.bytes.now)));
}
