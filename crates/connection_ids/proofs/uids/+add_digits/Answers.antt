use Rattle.std.proofs.Common.{arith}
use Rattle.connection_ids.proofs.DigitLemmas.{none_added, digits_added}
use Rattle.connection_ids.proofs.uids.+add_digits.Goals as goal

pub returns-then-count-eq0 : goal.returns-then-count-eq0
returns-then-count-eq0 t c = none_added _ _ _ (omega arith)

pub returns : goal.returns
returns t c = digits_added c.add_digits.result _ _ _ c.args.count c.args.n (omega arith)
    c.in_ok-add_digit.ensures c.add_digits.ensures
