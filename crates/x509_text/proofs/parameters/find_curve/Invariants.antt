use Rattle.std.proofs.Common.{◌≡◌, drop, map}
use Rattle.x509_text.specs.KnownCurves.{view_known}
use Rattle.x509_text.specs.Parameters.{curve_in, view_parameters}
use Rattle.x509_text.proofs.parameters.find_curve.Given as goal

abbrev pub invariant-loop-curve : goal.invariant-loop-curve
invariant-loop-curve l =
    curve_in (map view_known (drop l.curve-index l.table)) (view_parameters l.parameters) ≡ curve_in
    (map view_known l.table) (view_parameters l.parameters)
