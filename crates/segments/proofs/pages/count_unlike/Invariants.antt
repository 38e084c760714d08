use Rattle.std.proofs.Common.{◌≡◌, ◌≤◌, ◌-◌, length, take}
use Rattle.segments.specs.Cells.{differing}
use Rattle.segments.specs.Pages.{places}
use Rattle.segments.proofs.pages.count_unlike.Given as goal

abbrev pub invariant-loop-done : goal.invariant-loop-done
invariant-loop-done l = (l.count ≤ l.done) × (l.done ≤ length l.bytes)
    × (l.count ≡ differing 0 (take l.done l.bytes) (places l.done l.first l.pages))

abbrev pub decreases-loop-done : goal.decreases-loop-done
decreases-loop-done l = length l.bytes - l.done
