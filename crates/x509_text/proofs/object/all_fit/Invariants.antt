use Rattle.std.proofs.Common.{◌≡◌}
use Rattle.der.specs.ObjectIdentifier.{arcs_left, arcs_of}
use Rattle.x509_text.specs.ObjectText.{all_fit}
use Rattle.x509_text.proofs.object.all_fit.Given as goal

abbrev pub invariant-loop-arc : goal.invariant-loop-arc
invariant-loop-arc l =
    (goal.iterator-loop-arc).can_next l.arc-iterator ×
    (goal.iterator-loop-arc).is_finite l.arc-iterator ×
    (all_fit (arcs_left l.arc-iterator.next l.arc-iterator.numbers.bytes.now) ≡ all_fit
    (arcs_of l.fn.oid.content.now))
