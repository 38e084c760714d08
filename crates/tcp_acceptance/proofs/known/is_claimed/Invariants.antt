use Rattle.std.proofs.Common.{◌≡◌, drop}
use Rattle.tcp_acceptance.specs.Known.{is_claimed}
use Rattle.tcp_acceptance.proofs.known.is_claimed.Given as goal

-- The remaining ones give the same result as all.
abbrev pub invariant-loop-claim : goal.invariant-loop-claim
invariant-loop-claim l =
    is_claimed (drop l.claim-index l.claims) l.segment ≡ is_claimed l.claims l.segment
