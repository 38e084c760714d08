use Rattle.std.proofs.Common.{◌≡◌, ◌<◌, drop, length, None}
use Rattle.std.specs.Prelude.{IfSome}
use Rattle.tcp_acceptance.specs.Taking.{is_acknowledged, least_from, rank_if}
use Rattle.tcp_acceptance.proofs.room.place_acknowledged.Given as goal

-- The remaining ones, with the best so far, give the same place as all.
abbrev pub invariant-loop-index : goal.invariant-loop-index
invariant-loop-index l =
    (least_from (rank_if (is_acknowledged l.sender l.ack l.known) l.known) l.best l.place l.index
    (drop l.index l.list)
    ≡ least_from (rank_if (is_acknowledged l.sender l.ack l.known) l.known) 32 None 0 l.list)
    × IfSome l.place (λ place. place < length l.list)
