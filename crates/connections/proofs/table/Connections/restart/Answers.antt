use Rattle.std.proofs.Common.{ap, subst, ◌∙◌}
use Rattle.connections.specs.Connection.{IsAnew}
use Rattle.connections.specs.Segment.{five_tuple_of}
use Rattle.connections.proofs.MemoryLemmas.{accounted_with}
use Rattle.connections.proofs.TableLemmas.{anew_at, begun_anew}
use Rattle.connections.proofs.table.Connections.restart.Goals as goal

pub returns-clause-restarts : goal.returns-clause-restarts
returns-clause-restarts g c =
    rw (c.between-five_tuple.ensures, ← c.self.view_is)
    (anew_at c.args.segment.now.time (five_tuple_of c.args.segment.now)
    (record {
      live = c.self.inside.live.entries;
      closed = c.self.inside.closed.entries;
      held =
          c.self.inside.held;
    })
    c.in-Some.connection.now c.restart.new.self
    (rw c.between-five_tuple.ensures at c.in-Some.ensures.value)
    (subst (λ x. IsAnew c.args.segment.now.time x c.restart.new.self) c.get_mut.ensures.value
    c.restart.ensures.anew))

pub returns-clause-accounted : goal.returns-clause-accounted
returns-clause-accounted g c =
    rw (c.between-five_tuple.ensures, ← c.self.view_is)
    (accounted_with (five_tuple_of c.args.segment.now)
    (record {
      live = c.self.inside.live.entries;
      closed = c.self.inside.closed.entries;
      held =
          c.self.inside.held;
    })
    c.in-Some.connection.now c.restart.new.self
    (rw c.between-five_tuple.ensures at c.in-Some.ensures.value)
    (ap (λ x. x.weight) c.restart.ensures.anew ∙ ap (λ x. x.weight) c.get_mut.ensures.value))

pub returns-clause-attached : goal.returns-clause-attached
returns-clause-attached g c =
    rw (c.between-five_tuple.ensures, ← c.self.view_is)
    (begun_anew g.T.Attachment.IsBegun (five_tuple_of c.args.segment.now)
    c.self.inside.live.entries c.in-Some.connection.now c.restart.new.self
    (rw c.between-five_tuple.ensures at c.in-Some.ensures.value)
    (subst (λ x. g.T.Attachment.IsBegun x.protocol c.restart.new.self.attachment)
    c.get_mut.ensures.value c.restart.ensures.attached))
