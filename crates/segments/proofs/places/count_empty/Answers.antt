use Rattle.std.proofs.Common.{◌≡◌, ◌+◌, drop, sym, ◌∙◌, arith}
use Rattle.segments.specs.Cells.{empties}
use Rattle.segments.proofs.CellLemmas.{empties_next, empties_stop, none_of, some_of}
use Rattle.segments.proofs.places.count_empty.Goals as goal

pub returns-then-is_some-clause-is : goal.returns-then-is_some-clause-is
returns-then-is_some-clause-is c =
    let some = some_of c.place.result (sym c.is_some.ensures ∙ c.if-is_some.true) in
    let stop = empties_stop c.args.window.now c.loop-i.i some.0 (sym c.place.ensures ∙ some.1) in
    let inv = c.loop-i.invariant in
    omega (arith, stop, inv)

pub loop-i-preserved : goal.loop-i-preserved
loop-i-preserved c =
    let w = c.args.window.now in
    let i = c.loop-i.i in
    let inv = c.loop-i.invariant in
    let next = empties_next w i (omega (arith, c.loop-i-test.true, c.len-i-end.ensures))
    (sym c.place.ensures ∙ none_of c.place.result (sym c.is_some.ensures ∙ c.if-is_some.false)) in
    let e : empties w ≡ (i + 1) + empties (drop (i + 1) w) = omega (arith, inv, next) in
    e
