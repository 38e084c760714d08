use Rattle.std.proofs.Common.{◌≡◌, ◌≤◌, ◌-◌}
use Rattle.segments.specs.Cells.{known}
use Rattle.segments.specs.Pages.{places}
use Rattle.segments.proofs.pages.count_known.Given as goal

abbrev pub invariant-loop-done : goal.invariant-loop-done
invariant-loop-done l = (l.count ≤ l.done) × (l.done ≤ l.n)
    × (l.count ≡ known (places l.done l.first l.pages))

abbrev pub decreases-loop-done : goal.decreases-loop-done
decreases-loop-done l = l.n - l.done
