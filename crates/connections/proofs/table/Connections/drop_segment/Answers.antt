use Rattle.std.proofs.Common.{ap, ◌∙◌}
use Rattle.connections.specs.Connection.{dropping, without_earlier}
use Rattle.connections.specs.Segment.{five_tuple_of}
use Rattle.connections.proofs.ConnectionLemmas.{where_err, where_ok}
use Rattle.connections.proofs.MemoryLemmas.{accounted_with}
use Rattle.connections.proofs.TableLemmas.{changed_at}
use Rattle.connections.proofs.table.Connections.drop_segment.Goals as goal

pub returns-in-Some-clause-counted : goal.returns-in-Some-clause-counted
returns-in-Some-clause-counted g c =
    rw (c.between-five_tuple.ensures, ← c.self.view_is)
    (where_ok c.drop_segment.result
    (λ same. changed_at (five_tuple_of c.args.segment.now) (dropping c.args.reason c.args.segment.now)
    (record {
      live = c.self.inside.live.entries;
      closed = c.self.inside.closed.entries;
      held =
          c.self.inside.held;
    })
    c.in-Some.connection.now c.drop_segment.new.self
    (rw c.between-five_tuple.ensures at c.in-Some.ensures.value)
    (same ∙ ap (dropping c.args.reason c.args.segment.now) c.get_mut.ensures.value))
    c.drop_segment.ensures.dropped)

pub returns-in-Some-clause-err : goal.returns-in-Some-clause-err
returns-in-Some-clause-err g c =
    rw (c.between-five_tuple.ensures, ← c.self.view_is)
    (where_err c.drop_segment.result
    (λ same. changed_at (five_tuple_of c.args.segment.now) (without_earlier c.args.reason c.args.segment.now)
    (record {
      live = c.self.inside.live.entries;
      closed = c.self.inside.closed.entries;
      held =
          c.self.inside.held;
    })
    c.in-Some.connection.now c.drop_segment.new.self
    (rw c.between-five_tuple.ensures at c.in-Some.ensures.value)
    (same ∙ ap (without_earlier c.args.reason c.args.segment.now) c.get_mut.ensures.value))
    c.drop_segment.ensures.err)

pub returns-in-Some-clause-accounted : goal.returns-in-Some-clause-accounted
returns-in-Some-clause-accounted g c =
    rw (c.between-five_tuple.ensures, ← c.self.view_is)
    (accounted_with (five_tuple_of c.args.segment.now)
    (record {
      live = c.self.inside.live.entries;
      closed = c.self.inside.closed.entries;
      held =
          c.self.inside.held;
    })
    c.in-Some.connection.now c.drop_segment.new.self
    (rw c.between-five_tuple.ensures at c.in-Some.ensures.value)
    (c.drop_segment.ensures.weight ∙ ap (λ x. x.weight) c.get_mut.ensures.value))
