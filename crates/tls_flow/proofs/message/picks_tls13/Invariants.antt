use Rattle.std.proofs.Common.{◌≡◌}
use Rattle.layouts.specs.Items.{items_in}
use Rattle.tls_ext.specs.InPlace.{raw_extension}
use Rattle.tls_flow.specs.Messages.{any_picks}
use Rattle.tls_flow.proofs.message.picks_tls13.Given as goal

abbrev pub invariant-loop-extension : goal.invariant-loop-extension
invariant-loop-extension l =
    (goal.iterator-loop-extension).can_next l.extension-iterator ×
    (goal.iterator-loop-extension).is_finite l.extension-iterator ×
    (any_picks (items_in raw_extension l.block)
    ≡ any_picks (items_in raw_extension l.extension-iterator.bytes.now))
