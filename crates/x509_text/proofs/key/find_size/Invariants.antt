use Rattle.std.proofs.Common.{◌≡◌, drop, map}
use Rattle.x509_text.specs.Key.{size_in}
use Rattle.x509_text.specs.Object.{view_size}
use Rattle.x509_text.proofs.key.find_size.Given as goal

abbrev pub invariant-loop-curve : goal.invariant-loop-curve
invariant-loop-curve l =
    size_in (map view_size (drop l.curve-index l.table)) l.content ≡ size_in
    (map view_size l.table) l.content
