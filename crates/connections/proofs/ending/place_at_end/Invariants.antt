use Rattle.std.proofs.Common.{◌≡◌, drop}
use Rattle.connections.specs.Ending.{is_taken_at_end}
use Rattle.connections.specs.Waiting.{place_from}
use Rattle.connections.proofs.ending.place_at_end.Given as goal

abbrev pub invariant-loop-place : goal.invariant-loop-place
invariant-loop-place l =
    place_from (is_taken_at_end l.sent l.list) l.place (drop l.place l.list)
    ≡ place_from (is_taken_at_end l.sent l.list) 0 l.list
