use Rattle.std.proofs.Common.{◌≡◌, ◌≤◌, ◌+◌, ◌-◌, length, drop}
use Rattle.std.specs.Option.{option_map}
use Rattle.tls_detection.specs.Place.{place_behind}
use Rattle.tls_detection.proofs.place.place_behind.Given as goal

abbrev pub invariant-loop-place : goal.invariant-loop-place
invariant-loop-place l =
    (l.place ≤ length l.bytes)
    × (option_map (λ n. l.place + n) (place_behind l.answers (drop l.place l.bytes)) ≡ place_behind
    l.answers l.bytes)

abbrev pub decreases-loop-place : goal.decreases-loop-place
decreases-loop-place l = length l.bytes - l.place
