use Rattle.std.proofs.Common.{◌≤◌, length, arith}
use Rattle.tls_fingerprints.specs.Numbers.{four_digits}
use Rattle.tls_fingerprints.proofs.JoinLemmas.{joined_all}
use Rattle.tls_fingerprints.proofs.numbers.add_hex_list.Goals as goal

pub returns : goal.returns
returns c =
    let over : length c.in-Some.others.now ≤ c.loop-n.n-index = omega arith in
    joined_all 44 four_digits c.in-Some.first.now c.in-Some.others.now c.args.numbers.now
    c.loop-n.n-index _ _ _
    c.in-Some.ensures.cases.0 c.in_ok-add_four_digits.ensures c.loop-n.invariant over
