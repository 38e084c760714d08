use Rattle.std.proofs.Common.{◌≡◌, drop, map}
use Rattle.x509_text.specs.Object.{view_object}
use Rattle.x509_text.specs.ObjectText.{found_in}
use Rattle.x509_text.proofs.object.find_object.Given as goal

abbrev pub invariant-loop-object : goal.invariant-loop-object
invariant-loop-object l =
    found_in (map view_object (drop l.object-index l.table)) l.content ≡ found_in
    (map view_object l.table) l.content
