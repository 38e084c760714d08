use Rattle.std.proofs.Common.{◌≡◌, drop}
use Rattle.tcp_acceptance.specs.Taking.{certain_from}
use Rattle.tcp_acceptance.proofs.room.place_certain.Given as goal

abbrev pub invariant-loop-place : goal.invariant-loop-place
invariant-loop-place l = certain_from l.place (drop l.place l.list) ≡ certain_from 0 l.list
