use Rattle.connections.proofs.MemoryLemmas.{accounted_others}
use Rattle.connections.proofs.table.Connections.take_closed.Goals as goal

pub returns-clause-accounted : goal.returns-clause-accounted
returns-clause-accounted g c =
    rw (c.pop.ensures.entries, ← c.self.view_is)
    (accounted_others c.between-five_tuple.result
    (record {
      live = c.self.inside.live.entries;
      closed = c.self.inside.closed.entries;
      held =
          c.self.inside.held;
    })
    c.in-Some-pop.connection c.put_under.new.table.entries c.saturating_sub-self-inside.result
    c.in-Some-pop.ensures.value
    (rw (c.deref.ensures, c.into_box-over.ensures) at c.saturating_sub-self-inside.ensures))
