use Rattle.std.proofs.Common.{[], drop}
use Rattle.segments.specs.Cells.{Held}
use Rattle.segments.proofs.StepLemmas.{IsReplaying}
use Rattle.segments.proofs.steps.replay.Given as goal

abbrev pub invariant-loop-step : goal.invariant-loop-step
invariant-loop-step l =
    let start : Held = record { first = l.first_place; limit = l.limit; taken = 0; cells = [] } in
    IsReplaying start l.stream l.out.items (drop l.step-index l.steps) l.steps
