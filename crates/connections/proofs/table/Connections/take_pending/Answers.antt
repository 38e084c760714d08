use Rattle.std.proofs.Common.{ap, ◌∙◌}
use Rattle.connections.specs.Connection.{pending_outcome, without_pending}
use Rattle.connections.specs.Segment.{five_tuple_of}
use Rattle.std.specs.Option.{option_and_then}
use Rattle.connections.proofs.MemoryLemmas.{accounted_with}
use Rattle.connections.proofs.TableLemmas.{changed_at}
use Rattle.connections.proofs.table.Connections.take_pending.Goals as goal

pub returns-in-Some-clause-outcome : goal.returns-in-Some-clause-outcome
returns-in-Some-clause-outcome g c =
    let s = c.args.segment.now in
    rw (← c.self.view_is)
    (c.take_pending.ensures.outcome ∙ ap (pending_outcome s) c.get_mut.ensures.value
    ∙ ap (option_and_then (pending_outcome s))
    (rw c.between-five_tuple.ensures at c.in-Some.ensures.value))

pub returns-in-Some-clause-left : goal.returns-in-Some-clause-left
returns-in-Some-clause-left g c =
    let s = c.args.segment.now in
    rw (c.between-five_tuple.ensures, ← c.self.view_is)
    (changed_at (five_tuple_of s) (without_pending s)
    (record {
      live = c.self.inside.live.entries;
      closed = c.self.inside.closed.entries;
      held =
          c.self.inside.held;
    })
    c.in-Some.connection.now c.take_pending.new.self
    (rw c.between-five_tuple.ensures at c.in-Some.ensures.value)
    (c.take_pending.ensures.left ∙ ap (without_pending s) c.get_mut.ensures.value))

pub returns-in-Some-clause-accounted : goal.returns-in-Some-clause-accounted
returns-in-Some-clause-accounted g c =
    rw (c.between-five_tuple.ensures, ← c.self.view_is)
    (accounted_with (five_tuple_of c.args.segment.now)
    (record {
      live = c.self.inside.live.entries;
      closed = c.self.inside.closed.entries;
      held =
          c.self.inside.held;
    })
    c.in-Some.connection.now c.take_pending.new.self
    (rw c.between-five_tuple.ensures at c.in-Some.ensures.value)
    (c.take_pending.ensures.weight ∙ ap (λ x. x.weight) c.get_mut.ensures.value))
