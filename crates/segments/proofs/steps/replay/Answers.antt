use Rattle.std.proofs.Common.{[], drop, ap, ◌∙◌}
use Rattle.std.proofs.lemmas.List.{drop_all}
use Rattle.segments.specs.Cells.{Held, run}
use Rattle.segments.proofs.StepLemmas.{replayed, replaying_ends}
use Rattle.segments.proofs.steps.replay.Goals as goal

pub returns-clause-front : goal.returns-clause-front
returns-clause-front c =
    let start : Held =
    record { first = c.args.first_place; limit = c.args.limit; taken = 0; cells = [] } in
    let steps = c.args.steps.now in
    let i = c.loop-step.step-index in
    let out = c.loop-step.out.items in
    let ends = replaying_ends start c.loop-step.stream out (drop i steps) steps
    c.loop-step.invariant
    (drop_all i steps c.loop-step-test.false) in
    replayed c.args.first_place c.args.limit steps out _ ends.1
    (c.into_available.ensures ∙ ap (λ h. run h.cells) ends.0)
