use Rattle.connection_ids.proofs.DigitLemmas.{both_added}
use Rattle.connection_ids.proofs.uids.add_number.Goals as goal

pub returns : goal.returns
returns c = both_added c.add_digits-2.result _ _ _ c.args.n c.in_ok-add_digits.ensures
    c.add_digits-2.ensures
