use Rattle.std.proofs.Common.{◌≡◌, drop}
use Rattle.connections.specs.Waiting.{is_unsent_by, with_counted}
use Rattle.connections.proofs.pending.count_unsent.Given as goal

abbrev pub invariant-loop-kept : goal.invariant-loop-kept
invariant-loop-kept l =
    with_counted (is_unsent_by l.segment) (drop l.kept-index l.list) l.dropped
    ≡ with_counted (is_unsent_by l.segment) l.list l.initial.dropped
