use Rattle.tls_states.proofs.RowLemmas.{stepped_by_row, stepped_by_rule}
use Rattle.tls_states.proofs.transition.next_state.Goals as goal

pub returns-in-Some : goal.returns-in-Some
returns-in-Some c =
    stepped_by_row c.args.state c.args.kind c.args.direction c.in-Some.next c.in-Some.ensures

pub returns-in-None : goal.returns-in-None
returns-in-None c =
    stepped_by_rule c.args.state c.args.kind c.args.direction c.by_rule.result c.in-None.ensures
    c.by_rule.ensures
