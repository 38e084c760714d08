use Rattle.std.proofs.Common.{◌≡◌, ◌≤◌, ◌<◌, ◌/◌, ℕ, true}
use Rattle.std.specs.Option.{is_some}
use Rattle.segments.specs.Pages.{IsSame, page, page_length}
use Rattle.segments.proofs.pages.make_pages.Given as goal

abbrev pub invariant-loop-number : goal.invariant-loop-number
invariant-loop-number l =
    IsSame l.initial.pages l.pages
    × ((k : ℕ) → l.first / page_length ≤ k → k < l.number → is_some (page l.pages k) ≡ true)
