use Rattle.std.proofs.Common.{◌≡◌, ◌<◌, drop, length}
use Rattle.tcp_acceptance.specs.Room.{expendability, greatest_from}
use Rattle.tcp_acceptance.proofs.room.place_out.Given as goal

-- The remaining ones, with the best so far, give the same place as all.
abbrev pub invariant-loop-index : goal.invariant-loop-index
invariant-loop-index l =
    (greatest_from (expendability l.known l.list) l.best l.place l.index (drop l.index l.list)
    ≡ greatest_from (expendability l.known l.list) 0 0 0 l.list)
    × (l.place < length l.list)
