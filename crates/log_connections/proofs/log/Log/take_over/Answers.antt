use Rattle.connections.specs.Table.IsForgotten.{none}
use Rattle.log_connections.proofs.log.Log.take_over.Goals as goal

pub returns-then-not-has_idle-clause-forgotten : goal.returns-then-not-has_idle-clause-forgotten
returns-then-not-has_idle-clause-forgotten g c =
    none

pub returns-then-not-has_idle-clause-none_to_forget : goal.returns-then-not-has_idle-clause-none_to_forget
returns-then-not-has_idle-clause-none_to_forget g c =
    (c.has_idle.ensures.none c.if-not-has_idle.true).1
