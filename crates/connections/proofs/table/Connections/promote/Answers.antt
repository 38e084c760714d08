use Rattle.connections.proofs.MemoryLemmas.{accounted_promoted}
use Rattle.connections.proofs.table.Connections.promote.Goals as goal

pub returns-then-not-is_first-clause-accounted : goal.returns-then-not-is_first-clause-accounted
returns-then-not-is_first-clause-accounted g c =
    rw (c.promote.ensures.entries, ← c.self.view_is)
    (accounted_promoted c.args.five_tuple.now
    (record {
      live = c.self.inside.live.entries;
      closed = c.self.inside.closed.entries;
      held =
          c.self.inside.held;
    }))
