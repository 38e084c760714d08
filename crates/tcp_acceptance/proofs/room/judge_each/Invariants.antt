use Rattle.std.proofs.Common.{◌≡◌, ◌++◌, drop, take, map}
use Rattle.tcp_acceptance.specs.Taking.{judged_again}
use Rattle.tcp_acceptance.proofs.room.judge_each.Given as goal

-- Those before the index are judged.
abbrev pub invariant-loop-segment : goal.invariant-loop-segment
invariant-loop-segment l =
    take l.segment-index l.segment-items
    ++ map (judged_again l.heard) (drop l.segment-index l.segment-items)
    ≡ map (judged_again l.heard) l.initial.segment-items
