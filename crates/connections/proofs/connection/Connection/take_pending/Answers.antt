use Rattle.std.proofs.Common.{◌≡◌, subst}
use Rattle.connections.specs.Connection.{left_by, outcome_of, taken_from, without_first}
use Rattle.connections.proofs.connection.Connection.take_pending.Goals as goal

pub returns-clause-outcome : goal.returns-clause-outcome
returns-clause-outcome g c =
    let s = c.args.segment.now in
    subst (λ x. c.take_first.result ≡ outcome_of (taken_from s x) (without_first s x))
    c.heed.ensures.left c.take_first.ensures.outcome

pub returns-clause-left : goal.returns-clause-left
returns-clause-left g c =
    let s = c.args.segment.now in
    subst (λ x. c.take_first.new.self ≡ left_by (taken_from s x) s (without_first s x))
    c.heed.ensures.left c.take_first.ensures.left
