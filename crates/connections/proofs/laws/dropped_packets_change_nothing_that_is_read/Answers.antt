use Rattle.connections.proofs.DropLemmas.{dropping_alone, pending_alone, waiting_alone}
use Rattle.connections.proofs.laws.dropped_packets_change_nothing_that_is_read.Goals as goal

pub returns-clause-dropped : goal.returns-clause-dropped
returns-clause-dropped g c = dropping_alone

pub returns-clause-waiting : goal.returns-clause-waiting
returns-clause-waiting g c = waiting_alone

pub returns-clause-acknowledged : goal.returns-clause-acknowledged
returns-clause-acknowledged g c = pending_alone
