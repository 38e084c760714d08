use Rattle.connections.proofs.MemoryLemmas.{accounted_missed, accounted_others}
use Rattle.connections.proofs.table.Connections.take.Goals as goal

pub returns-in_err-connection-clause-accounted : goal.returns-in_err-connection-clause-accounted
returns-in_err-connection-clause-accounted g c =
    rw (c.pop.ensures.entries, ← c.self.view_is)
    (accounted_missed c.args.five_tuple.now
    (record {
      live = c.self.inside.live.entries;
      closed = c.self.inside.closed.entries;
      held =
          c.self.inside.held;
    })
    c.in_err-connection.ensures.value)

pub returns-clause-accounted : goal.returns-clause-accounted
returns-clause-accounted g c =
    rw (c.pop.ensures.entries, ← c.self.view_is)
    (accounted_others c.args.five_tuple.now
    (record {
      live = c.self.inside.live.entries;
      closed = c.self.inside.closed.entries;
      held =
          c.self.inside.held;
    })
    c.in_ok-connection.connection c.self.inside.closed.entries c.saturating_sub-self-inside.result
    c.in_ok-connection.ensures.value
    (rw (c.deref.ensures, c.into_box-over.ensures) at c.saturating_sub-self-inside.ensures))
