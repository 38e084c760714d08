use Rattle.std.proofs.Common.{◌≡◌, ◌≤◌, ℕ}
use Rattle.segments.specs.Pages.{AreWhole, place}
use Rattle.segments.proofs.pages.remove_pages.Given as goal

abbrev pub invariant-loop-number : goal.invariant-loop-number
invariant-loop-number l =
    AreWhole l.pages × ((j : ℕ) → l.end ≤ j → place l.pages j ≡ place l.initial.pages j)
