use Rattle.std.proofs.Common.{◌≤◌, length, add-one, arith}
use Rattle.std.proofs.lemmas.List.{take_rest}
use Rattle.x509_text.proofs.HostLemmas.{all_first, first_ends}
use Rattle.x509_text.proofs.host.first_label.Goals as goal

pub returns-then-byte-eq46-clause-split : goal.returns-then-byte-eq46-clause-split
returns-then-byte-eq46-clause-split c =
    rw (take_rest, add-one)
    (first_ends c.args.name.now c.loop-at.at c.loop-at.invariant c.loop-at-test.true
    c.if-byte-eq46.true)

pub returns-clause-split : goal.returns-clause-split
returns-clause-split c =
    let over : length c.args.name.now ≤ c.loop-at.at = c.loop-at-test.false in
    all_first c.args.name.now (λ k low. c.loop-at.invariant k (omega arith))
