use Rattle.std.proofs.Common.{◌≡◌}
use Rattle.layouts.specs.Items.{items_in}
use Rattle.x509.specs.Certificate.{extension}
use Rattle.x509.specs.Extensions.{first_of}
use Rattle.x509.proofs.extension.first_extension.Given as goal

abbrev pub invariant-loop-extension : goal.invariant-loop-extension
invariant-loop-extension l =
    (goal.iterator-loop-extension).can_next l.extension-iterator ×
    (goal.iterator-loop-extension).is_finite l.extension-iterator ×
    (first_of l.extn_id.content.now (items_in extension l.fn.extensions.bytes.now)
    ≡ first_of l.extn_id.content.now (items_in extension l.extension-iterator.bytes.now))
