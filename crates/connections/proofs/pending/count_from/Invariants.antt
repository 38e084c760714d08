use Rattle.std.proofs.Common.{◌≡◌, drop}
use Rattle.connections.specs.Waiting.{is_from, with_counted}
use Rattle.connections.proofs.pending.count_from.Given as goal

abbrev pub invariant-loop-kept : goal.invariant-loop-kept
invariant-loop-kept l =
    with_counted (is_from l.sender) (drop l.kept-index l.list) l.dropped
    ≡ with_counted (is_from l.sender) l.list l.initial.dropped
