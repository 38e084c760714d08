use Rattle.log_connections.proofs.FoundLemmas.{one_counted}
use Rattle.log_connections.proofs.log.Log.end_removed.Goals as goal

pub returns-in_err-end_connection-in-Some-clause-counted : goal.returns-in_err-end_connection-in-Some-clause-counted
returns-in_err-end_connection-in-Some-clause-counted g c =
    one_counted (λ b. b.value) c.args.removed c.in-Some.over c.args.self.now.arrivals.counts
    c.end_connection.new.self.arrivals.counts c.in-Some.is c.end_connection.ensures.counted

pub returns-in_ok-end_connection-in-Some-clause-counted : goal.returns-in_ok-end_connection-in-Some-clause-counted
returns-in_ok-end_connection-in-Some-clause-counted g c =
    one_counted (λ b. b.value) c.args.removed c.in-Some.over c.args.self.now.arrivals.counts
    c.end_connection.new.self.arrivals.counts c.in-Some.is c.end_connection.ensures.counted
