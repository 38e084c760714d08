-- what is printed so far and what the other records print is what all of them print
use Rattle.std.proofs.Common.{◌≡◌, ◌++◌, length}
use Rattle.std.specs.String.{string_bytes}
use Rattle.tlsview.specs.Out.{half, half_part}
use Rattle.tlsview.proofs.records.show_records.Given as goal

abbrev pub invariant-records : goal.invariant-records
invariant-records l =
    let rest = half_part l.direction (half l.side l.context) in
    let all = half_part l.direction (half l.fn.side l.fn.context) in
    record {
      text : string_bytes l.text ++ rest.0 ≡ string_bytes l.fn.text ++ all.0;
      ending : rest.1 ≡ all.1;
    }

abbrev pub decreases-records : goal.decreases-records
decreases-records l = length l.side.stream
