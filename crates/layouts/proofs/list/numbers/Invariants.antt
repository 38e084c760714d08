use Rattle.std.proofs.Common.{◌≡◌, ◌+◌, ◌*◌, map, length}
use Rattle.std.specs.Prelude.{vec_len, vec_capacity}
use Rattle.layouts.proofs.TimesLemmas.{TimesRead}
use Rattle.layouts.specs.Layout.{number}
use Rattle.layouts.proofs.list.numbers.Given as goal

abbrev pub invariant-loop : goal.invariant-loop
invariant-loop g l = TimesRead (number g.T.Number.WIDTH) l.fn.i l.counter
    (map g.T.Number.value l.numbers.items) l.rest
    × ((vec_len l.numbers ≡ l.counter) × (vec_capacity l.numbers ≡ l.fn.count))
    × (g.T.Number.WIDTH * l.counter + length l.rest ≡ length l.fn.i)
