use Rattle.std.proofs.Common.{◌≡◌, ◌-◌, ◌≤◌, ℕ, None, length, take, get_or, max}
use Rattle.dtls_stream.proofs.messages.widen.Given as goal

abbrev pub invariant-loop-slots : goal.invariant-loop-slots
invariant-loop-slots l =
    ((k : ℕ) → get_or l.slots.items k None ≡ get_or l.initial.slots.items k None)
    × (take (length l.initial.slots.items) l.slots.items ≡ l.initial.slots.items)
    × (length l.initial.slots.items ≤ length l.slots.items)
    × (length l.slots.items ≤ max (length l.initial.slots.items) l.n)
    × (l.held ≡ length l.initial.slots.items)

abbrev pub decreases-loop-slots : goal.decreases-loop-slots
decreases-loop-slots l = l.n - length l.slots.items
