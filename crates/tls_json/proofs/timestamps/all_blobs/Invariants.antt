use Rattle.std.proofs.Common.{◌≡◌, ◌++◌, map}
use Rattle.layouts.specs.Items.{items_in}
use Rattle.layouts.specs.Layout.{counted}
use Rattle.tls_json.specs.Views.{view}
use Rattle.tls_json.specs.Whole.{blobs_of}
use Rattle.tls_json.proofs.timestamps.all_blobs.Given as goal

abbrev pub invariant-loop-one : goal.invariant-loop-one
invariant-loop-one l =
    (goal.iterator-loop-one).can_next l.one-iterator ×
    (goal.iterator-loop-one).is_finite l.one-iterator ×
    (map view l.all.items ++ blobs_of (items_in (counted 2) l.one-iterator.bytes.now)
    ≡ blobs_of (items_in (counted 2) l.fn.bytes))
