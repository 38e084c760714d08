use Rattle.std.proofs.Common.{ℕ, List, ◌++◌, decimal}
use Rattle.md5.specs.Md5.{Holds}
use Rattle.layouts.specs.Items.{items_in}
use Rattle.tls_ext.specs.InPlace.{extension_type}
use Rattle.tls_fingerprints.specs.Numbers.{dashed, without_grease}
use Rattle.tls_fingerprints.proofs.JoinLemmas.{IsAhead, left_text}
use Rattle.tls_fingerprints.proofs.feeding.feed_types.Given as goal

abbrev pub invariant-loop-kind : goal.invariant-loop-kind
invariant-loop-kind l = record {
  can_next : (goal.iterator-loop-kind).can_next l.kind-iterator;
  is_finite : (goal.iterator-loop-kind).is_finite l.kind-iterator;
  ahead : (m : List ℕ) → Holds l.initial.text m → IsAhead Holds l.text
      (m ++ dashed (without_grease (items_in extension_type l.fn.types.bytes.now)))
      (left_text 45 decimal l.is_first
      (without_grease (items_in extension_type l.kind-iterator.bytes.now)));
}
