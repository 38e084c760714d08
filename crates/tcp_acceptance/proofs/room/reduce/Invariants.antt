use Rattle.std.proofs.Common.{◌≡◌, ◌+◌, length}
use Rattle.tcp_acceptance.specs.Room.{reduced, reduced_tally}
use Rattle.tcp_acceptance.proofs.room.reduce.Given as goal

-- The others are reduced as all are.
abbrev pub invariant-loop-turn : goal.invariant-loop-turn
invariant-loop-turn l =
    (length l.list.items + l.turn ≡ length l.initial.list.items)
    × (reduced (length l.list.items) l.known l.list.items
    ≡ reduced (length l.initial.list.items) l.known l.initial.list.items)
    × (reduced_tally (length l.list.items) l.known l.list.items l.dropped
    ≡ reduced_tally (length l.initial.list.items) l.known l.initial.list.items l.initial.dropped)
