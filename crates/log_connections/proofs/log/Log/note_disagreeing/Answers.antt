use Rattle.log_connections.proofs.WeightLemmas.{disagreeing_weight}
use Rattle.std.proofs.Common.{ap, ◌∙◌}
use Rattle.connections.proofs.MemoryLemmas.{accounted_with}
use Rattle.arrivals.specs.Arrival.{five_tuple_in}
use Rattle.connections.proofs.TableLemmas.{changed_at}
use Rattle.log_connections.specs.Log.{disagreeing_of}
use Rattle.log_connections.proofs.log.Log.note_disagreeing.Goals as goal

pub returns-clause-noted : goal.returns-clause-noted
returns-clause-noted g c =
    let a = c.args.arrival.now in
    rw c.between.ensures
    (changed_at (five_tuple_in a) (disagreeing_of a c.args.count)
    c.args.self.now.connections c.in-Some.connection.now c.count_disagreeing.new.connection
    (rw c.between.ensures at c.in-Some.ensures.value)
    (rw c.source.ensures at c.count_disagreeing.ensures))

pub returns-clause-accounted : goal.returns-clause-accounted
returns-clause-accounted g c =
    rw c.between.ensures
    (accounted_with (five_tuple_in c.args.arrival.now) c.args.self.now.connections
    c.in-Some.connection.now c.count_disagreeing.new.connection
    (rw c.between.ensures at c.in-Some.ensures.value)
    (ap (λ x. x.weight) c.count_disagreeing.ensures
    ∙ disagreeing_weight _ c.args.count c.in-Some.connection.now))
