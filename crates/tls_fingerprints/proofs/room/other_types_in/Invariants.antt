use Rattle.std.proofs.Common.{◌≡◌, ◌+◌, ◌≤◌, ◌++◌, length, take}
use Rattle.layouts.specs.Items.{items_in}
use Rattle.tls_ext.specs.InPlace.{extension_type}
use Rattle.tls_fingerprints.specs.Ja4.{other_types}
use Rattle.tls_fingerprints.specs.Numbers.{without_grease}
use Rattle.tls_fingerprints.proofs.room.other_types_in.Given as goal

abbrev pub invariant-loop-kind : goal.invariant-loop-kind
invariant-loop-kind l = record {
  can_next : (goal.iterator-loop-kind).can_next l.kind-iterator;
  is_finite : (goal.iterator-loop-kind).is_finite l.kind-iterator;
  within : l.all ≤ length l.room;
  fewer : l.others ≤ l.all;
  counted : l.all + length (without_grease (items_in extension_type l.kind-iterator.bytes.now))
      ≡ length (without_grease (items_in extension_type l.fn.types.bytes.now));
  kept : take l.others l.room ++ other_types
      (without_grease (items_in extension_type l.kind-iterator.bytes.now))
      ≡ other_types (without_grease (items_in extension_type l.fn.types.bytes.now));
}
