use Rattle.std.proofs.Common.{◌≡◌, ◌++◌}
use Rattle.std.specs.String.{string_bytes}
use Rattle.der.specs.ObjectIdentifier.{arcs_left, arcs_of}
use Rattle.x509_text.specs.ObjectText.{arc_text, numbers_text}
use Rattle.x509_text.proofs.JoinLemmas.{behind}
use Rattle.x509_text.proofs.object.add_arcs.Given as goal

abbrev pub invariant-loop-arc : goal.invariant-loop-arc
invariant-loop-arc l =
    (goal.iterator-loop-arc).can_next l.arc-iterator ×
    (goal.iterator-loop-arc).is_finite l.arc-iterator ×
    (string_bytes l.text ++ behind 46 arc_text
    (arcs_left l.arc-iterator.next l.arc-iterator.numbers.bytes.now)
    ≡ string_bytes l.fn.text ++ numbers_text (arcs_of l.fn.oid.content.now))
