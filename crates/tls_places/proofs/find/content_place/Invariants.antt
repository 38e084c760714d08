use Rattle.std.proofs.Common.{◌≡◌}
use Rattle.layouts.specs.Items.{items_in}
use Rattle.tls_ext.specs.InPlace.{raw_extension, first_of}
use Rattle.tls_places.proofs.find.content_place.Given as goal

abbrev pub invariant-loop-extension : goal.invariant-loop-extension
invariant-loop-extension l =
    (goal.iterator-loop-extension).can_next l.extension-iterator ×
    (goal.iterator-loop-extension).is_finite l.extension-iterator ×
    (l.extension-iterator.whole.now ≡ l.block) ×
    (first_of l.kind.0 (items_in raw_extension l.block)
    ≡ first_of l.kind.0 (items_in raw_extension l.extension-iterator.rest.now))
