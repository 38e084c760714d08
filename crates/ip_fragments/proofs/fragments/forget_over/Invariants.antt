use Rattle.std.proofs.Common.{◌≡◌, ◌-◌, ◌<◌, ◌≤◌, ◌^◌, length}
use Rattle.ip_fragments.specs.Table.{kept, weight}
use Rattle.ip_fragments.specs.Waiting.{counted}
use Rattle.ip_fragments.proofs.fragments.forget_over.Given as goal

abbrev pub invariant-loop-oldest : goal.invariant-loop-oldest
invariant-loop-oldest l =
    (kept l.fn.more l.waiting.entries ≡ kept l.fn.more l.initial.waiting.entries)
    × (counted l.evicted (length l.waiting.entries - length (kept l.fn.more l.waiting.entries))
    ≡ counted l.fn.before.evicted (length l.initial.waiting.entries
    - length (kept l.fn.more l.initial.waiting.entries)))
    × (l.sum ≡ weight l.waiting.entries) × (l.sum ≤ 33554432)
    × (l.waiting.cap ≡ l.initial.waiting.cap) × (l.evicted < 2 ^ 64)

abbrev pub decreases-loop-oldest : goal.decreases-loop-oldest
decreases-loop-oldest l = length l.waiting.entries
