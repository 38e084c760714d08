use Rattle.connections.proofs.TableLemmas.{was_last}
use Rattle.connections.proofs.MemoryLemmas.{accounted_front}
use Rattle.connections.proofs.table.Connections.take_remaining.Goals as goal

pub returns-clause-taken : goal.returns-clause-taken
returns-clause-taken g c =
    rw (c.pop_lru.ensures.entries, ← c.self.view_is, c.into_box-over.ensures)
    (was_last c.self.inside.live.entries c.in_ok-connection.field-0-0 c.in_ok-connection.connection
    c.in_ok-connection.ensures.value)

pub returns-clause-accounted : goal.returns-clause-accounted
returns-clause-accounted g c =
    rw (c.pop_lru.ensures.entries, ← c.self.view_is)
    (accounted_front
    (record {
      live = c.self.inside.live.entries;
      closed = c.self.inside.closed.entries;
      held =
          c.self.inside.held;
    })
    c.in_ok-connection.field-0-0 c.in_ok-connection.connection c.self.inside.closed.entries
    c.saturating_sub-self-inside.result
    c.in_ok-connection.ensures.value
    (rw (c.deref.ensures, c.into_box-over.ensures) at c.saturating_sub-self-inside.ensures))
