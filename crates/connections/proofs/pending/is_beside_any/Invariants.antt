use Rattle.std.proofs.Common.{◌≡◌, drop}
use Rattle.connections.specs.Waiting.{is_beside_any}
use Rattle.connections.proofs.pending.is_beside_any.Given as goal

-- The remaining ones give the same result as all.
abbrev pub invariant-loop-other : goal.invariant-loop-other
invariant-loop-other l =
    is_beside_any l.kept (drop l.other-index l.list) ≡ is_beside_any l.kept l.list
