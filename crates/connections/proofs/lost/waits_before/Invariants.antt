use Rattle.std.proofs.Common.{◌≡◌, drop}
use Rattle.connections.specs.Lost.{waits_before}
use Rattle.connections.proofs.lost.waits_before.Given as goal

-- The remaining ones give the same result as all.
abbrev pub invariant-loop-kept : goal.invariant-loop-kept
invariant-loop-kept l =
    waits_before l.sender l.number (drop l.kept-index l.list) ≡ waits_before l.sender l.number l.list
