use Rattle.std.proofs.Common.{◌≤◌, length, arith}
use Rattle.tls_fingerprints.proofs.DigestLemmas.{five_put}
use Rattle.tls_fingerprints.proofs.digits.joined.Goals as goal

pub returns : goal.returns
returns c =
    let all : length c.put-end.new.text ≤ c.put-end.result = omega arith in
    five_put _ _ _ _ _ _ _ _ _ _ _ _ _ _ _ c.put-at.ensures.stands c.put-at-2.ensures.stands
    c.put-at-3.ensures.stands c.put-at-4.ensures.stands c.put-end.ensures.stands all
