use Rattle.std.proofs.Common.{◌≤◌, ◌+◌, ◌-◌}
use Rattle.segments.specs.Cells.{run}
use Rattle.segments.specs.Pages.{places}
use Rattle.segments.proofs.PlaceLemmas.{IsAppending}
use Rattle.segments.proofs.pages.append_front.Given as goal

abbrev pub invariant-loop-done : goal.invariant-loop-done
invariant-loop-done l = (l.done ≤ l.n)
    × IsAppending l.out.items l.initial.out.items
    (run (places (l.n - l.done) (l.first + l.done) l.pages))
    (run (places l.n l.first l.pages))

abbrev pub decreases-loop-done : goal.decreases-loop-done
decreases-loop-done l = l.n - l.done
