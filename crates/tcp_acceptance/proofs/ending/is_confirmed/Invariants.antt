use Rattle.std.proofs.Common.{◌≡◌, drop}
use Rattle.tcp_acceptance.specs.Ending.{is_confirmed}
use Rattle.tcp_acceptance.proofs.ending.is_confirmed.Given as goal

-- The remaining ones give the same result as all.
abbrev pub invariant-loop-claim : goal.invariant-loop-claim
invariant-loop-claim l =
    is_confirmed l.known l.list l.segment (drop l.claim-index l.claims)
    ≡ is_confirmed l.known l.list l.segment l.claims
