use Rattle.std.proofs.Common.{◌≡◌, drop}
use Rattle.connections.specs.Ending.{meets_any}
use Rattle.connections.proofs.ending.meets_any.Given as goal

-- The remaining ones give the same result as all.
abbrev pub invariant-loop-other : goal.invariant-loop-other
invariant-loop-other l =
    meets_any l.kept (drop l.other-index l.list) ≡ meets_any l.kept l.list
