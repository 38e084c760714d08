use Rattle.std.proofs.Common.{◌≡◌, drop}
use Rattle.connections.specs.Ending.{is_end_of_any}
use Rattle.connections.proofs.ending.is_end_of_any.Given as goal

-- The remaining ones give the same result as all.
abbrev pub invariant-loop-other : goal.invariant-loop-other
invariant-loop-other l =
    is_end_of_any l.kept l.number (drop l.other-index l.list) ≡ is_end_of_any l.kept l.number l.list
