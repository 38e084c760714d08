use Rattle.std.proofs.Common.{◌≤◌, subst, arith}
use Rattle.ip_fragments.proofs.CountLemmas.{unlike_rest}
use Rattle.ip_fragments.proofs.runs.count_unlike.Goals as goal

pub returns-clause-is : goal.returns-clause-is
returns-clause-is c =
    let done = c.loop-i-test.false in
    let common = c.min-common.ensures in
    let rest = unlike_rest c.args.bytes.now c.args.others.now c.loop-i.i
    (subst (λ n. n ≤ c.loop-i.i) common (omega (arith, done))) in
    let equal = c.loop-i.invariant.1 in
    omega (arith, rest, equal)
