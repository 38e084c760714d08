use Rattle.std.proofs.Common.{ℕ, List, ◌≤◌, vec_len}
use Rattle.log_formats.specs.Cached.{HasText}
use Rattle.log_formats.proofs.text_cache.KnownLists.make_sets.Given as goal

abbrev pub invariant-loop : goal.invariant-loop
invariant-loop l =
    ((p : ℕ) (ns t : List ℕ) → HasText l.self p ns t → HasText l.fn.self p ns t)
    × (l.counter ≤ vec_len l.self.sets)
