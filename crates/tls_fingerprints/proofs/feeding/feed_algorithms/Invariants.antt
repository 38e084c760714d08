use Rattle.std.proofs.Common.{◌≡◌, ℕ, List}
use Rattle.sha2.specs.Hashers.{Holds256}
use Rattle.layouts.specs.Items.{items_in}
use Rattle.layouts.specs.Layout.{number}
use Rattle.tls_fingerprints.specs.Ja4.{with_algorithms}
use Rattle.tls_fingerprints.specs.Numbers.{has_any, without_grease}
use Rattle.tls_fingerprints.proofs.JoinLemmas.{IsAhead, algorithms_left, any_left}
use Rattle.tls_fingerprints.proofs.feeding.feed_algorithms.Given as goal

abbrev pub invariant-loop-n : goal.invariant-loop-n
invariant-loop-n l = record {
  can_next : (goal.iterator-loop-n).can_next l.n-iterator;
  is_finite : (goal.iterator-loop-n).is_finite l.n-iterator;
  ahead : (m : List ℕ) → Holds256 l.initial.text m → IsAhead Holds256 l.text
      (with_algorithms m (without_grease (items_in (number 2) l.fn.algorithms.bytes.now)))
      (algorithms_left l.is_first (without_grease (items_in (number 2) l.n-iterator.bytes.now)));
  any : any_left l.is_first (without_grease (items_in (number 2) l.n-iterator.bytes.now))
      ≡ has_any (without_grease (items_in (number 2) l.fn.algorithms.bytes.now));
}
