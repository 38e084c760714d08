use Rattle.log_connections.proofs.log.Log.settle.Goals as goal

pub returns-clause-settled : goal.returns-clause-settled
returns-clause-settled g c = rw c.if-not-self.false (rw c.between.ensures at c.settle.ensures.settled)
