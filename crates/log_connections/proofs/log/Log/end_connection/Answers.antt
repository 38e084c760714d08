use Rattle.log_connections.proofs.log.Log.end_connection.Goals as goal

pub returns-in_err-hand_over-clause-counted : goal.returns-in_err-hand_over-clause-counted
returns-in_err-hand_over-clause-counted g c = rw c.deref.ensures at c.add_connection.ensures

pub returns-clause-counted : goal.returns-clause-counted
returns-clause-counted g c = rw c.spare.ensures.same (rw c.deref.ensures at c.add_connection.ensures)
