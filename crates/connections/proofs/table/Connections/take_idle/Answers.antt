use Rattle.std.proofs.Common.{ap}
use Rattle.connections.proofs.TableLemmas.{was_last, same_last}
use Rattle.connections.proofs.MemoryLemmas.{accounted_front}
use Rattle.connections.proofs.table.Connections.take_idle.Goals as goal

pub returns-clause-taken : goal.returns-clause-taken
returns-clause-taken g c =
    let same = same_last _ c.in_ok-oldest.field-0-0.now c.in_ok-connection.field-0-0
    c.in_ok-oldest.oldest.now
    c.in_ok-connection.connection c.in_ok-oldest.ensures c.in_ok-connection.ensures.value in
    let at_once = ap (λ x. x.last_time) same in
    rw (c.pop_lru.ensures.entries, ← c.self.view_is, c.into_box-over.ensures) (
      was_last c.self.inside.live.entries c.in_ok-connection.field-0-0 c.in_ok-connection.connection
          c.in_ok-connection.ensures.value,
      rw (c.len.ensures.len, c.get.ensures, at_once) at
          (c.is_over.ensures.over c.if-not-is_over.false),
    )

pub returns-clause-accounted : goal.returns-clause-accounted
returns-clause-accounted g c =
    rw (c.pop_lru.ensures.entries, ← c.self.view_is)
    (accounted_front
    (record {
      live = c.self.inside.live.entries;
      closed = c.self.inside.closed.entries;
      held =
          c.self.inside.held;
    })
    c.in_ok-connection.field-0-0 c.in_ok-connection.connection c.forget_idle.new.closed.entries
    c.saturating_sub-self-inside.result
    c.in_ok-connection.ensures.value
    (rw (c.deref.ensures, c.into_box-over.ensures) at c.saturating_sub-self-inside.ensures))
