use Rattle.std.proofs.Common.{◌≡◌, drop}
use Rattle.tcp_acceptance.specs.Ending.{is_begun}
use Rattle.tcp_acceptance.proofs.ending.is_begun.Given as goal

-- The remaining ones give the same result as all.
abbrev pub invariant-loop-claim : goal.invariant-loop-claim
invariant-loop-claim l =
    is_begun l.side l.number (drop l.claim-index l.claims) ≡ is_begun l.side l.number l.claims
