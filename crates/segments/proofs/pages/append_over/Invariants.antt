use Rattle.std.proofs.Common.{◌≤◌, ◌+◌, ◌-◌, length, drop}
use Rattle.segments.specs.Pages.{places}
use Rattle.segments.specs.Places.{over}
use Rattle.segments.proofs.PlaceLemmas.{IsAppending}
use Rattle.segments.proofs.pages.append_over.Given as goal

abbrev pub invariant-loop-done : goal.invariant-loop-done
invariant-loop-done l = (l.done ≤ length l.bytes)
    × IsAppending l.out.items l.initial.out.items
    (over (places (length l.bytes - l.done) (l.first + l.done) l.pages) (drop l.done l.bytes))
    (over (places (length l.bytes) l.first l.pages) l.bytes)

abbrev pub decreases-loop-done : goal.decreases-loop-done
decreases-loop-done l = length l.bytes - l.done
