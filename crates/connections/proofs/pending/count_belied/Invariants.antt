use Rattle.std.proofs.Common.{◌≡◌, drop}
use Rattle.connections.specs.Waiting.{is_belied_by, with_counted}
use Rattle.connections.proofs.pending.count_belied.Given as goal

abbrev pub invariant-loop-kept : goal.invariant-loop-kept
invariant-loop-kept l =
    with_counted (is_belied_by l.segment l.reached) (drop l.kept-index l.list) l.dropped
    ≡ with_counted (is_belied_by l.segment l.reached) l.list l.initial.dropped
