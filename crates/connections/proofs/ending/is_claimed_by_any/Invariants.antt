use Rattle.std.proofs.Common.{◌≡◌, drop}
use Rattle.connections.specs.Ending.{is_claimed_by_any}
use Rattle.connections.proofs.ending.is_claimed_by_any.Given as goal

-- The remaining ones give the same result as all.
abbrev pub invariant-loop-other : goal.invariant-loop-other
invariant-loop-other l =
    is_claimed_by_any l.list l.kept (drop l.other-index l.list)
    ≡ is_claimed_by_any l.list l.kept l.list
