use Rattle.std.proofs.Common.{◌≡◌, ◌<◌, drop, length, None}
use Rattle.std.specs.Prelude.{IfSome}
use Rattle.tcp_acceptance.specs.Ending.{is_taken_at_end}
use Rattle.tcp_acceptance.specs.Taking.{least_from, rank_if}
use Rattle.tcp_acceptance.proofs.ending.place_at_end.Given as goal

-- The remaining ones, with the best so far, give the same place as all.
abbrev pub invariant-loop-index : goal.invariant-loop-index
invariant-loop-index l =
    (least_from (rank_if (is_taken_at_end l.known l.list) l.known) l.best l.place l.index
    (drop l.index l.list)
    ≡ least_from (rank_if (is_taken_at_end l.known l.list) l.known) 32 None 0 l.list)
    × IfSome l.place (λ place. place < length l.list)
