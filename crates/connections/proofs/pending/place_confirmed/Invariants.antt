use Rattle.std.proofs.Common.{◌≡◌, drop}
use Rattle.connections.specs.Waiting.{is_confirmed_by, place_from}
use Rattle.connections.proofs.pending.place_confirmed.Given as goal

abbrev pub invariant-loop-place : goal.invariant-loop-place
invariant-loop-place l =
    place_from (is_confirmed_by l.ack l.known) l.place (drop l.place l.list)
    ≡ place_from (is_confirmed_by l.ack l.known) 0 l.list
