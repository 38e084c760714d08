use Rattle.std.proofs.Common.{ap, sym, ◌∙◌}
use Rattle.connections.specs.Connection.{with_waiting}
use Rattle.connections.specs.Segment.{five_tuple_of}
use Rattle.std.proofs.lemmas.Map.Steps.{set_value_same}
use Rattle.std.specs.Map.{set_value}
use Rattle.connections.specs.FiveTuple.{is_five_tuple}
use Rattle.connections.proofs.ConnectionLemmas.{where_err, where_ok}
use Rattle.connections.proofs.MemoryLemmas.{accounted_with}
use Rattle.connections.proofs.TableLemmas.{changed_at}
use Rattle.connections.proofs.table.Connections.wait.Goals as goal

pub returns-in-Some-clause-waits : goal.returns-in-Some-clause-waits
returns-in-Some-clause-waits g c =
    rw (c.between-five_tuple.ensures, ← c.self.view_is)
    (where_ok c.wait.result
    (λ same. changed_at (five_tuple_of c.args.segment.now) (with_waiting c.args.reason c.args.segment.now)
    (record {
      live = c.self.inside.live.entries;
      closed = c.self.inside.closed.entries;
      held =
          c.self.inside.held;
    })
    c.in-Some.connection.now c.wait.new.self
    (rw c.between-five_tuple.ensures at c.in-Some.ensures.value)
    (same ∙ ap (with_waiting c.args.reason c.args.segment.now) c.get_mut.ensures.value))
    c.wait.ensures.waits)

pub returns-in-Some-clause-err : goal.returns-in-Some-clause-err
returns-in-Some-clause-err g c =
    let e = five_tuple_of c.args.segment.now in let xs = c.self.inside.live.entries in
    rw (c.between-five_tuple.ensures, ← c.self.view_is)
    (where_err c.wait.result
    (λ same. ap (λ l. record {
      live = l;
      closed = c.self.inside.closed.entries;
      held =
          c.self.inside.held;
    })
    (ap (set_value (is_five_tuple e) xs) (same ∙ c.get_mut.ensures.value)
    ∙ set_value_same (is_five_tuple e) xs c.in-Some.connection.now
    (sym (rw c.between-five_tuple.ensures at c.in-Some.ensures.value))))
    c.wait.ensures.err)

pub returns-in-Some-clause-accounted : goal.returns-in-Some-clause-accounted
returns-in-Some-clause-accounted g c =
    rw (c.between-five_tuple.ensures, ← c.self.view_is)
    (accounted_with (five_tuple_of c.args.segment.now)
    (record {
      live = c.self.inside.live.entries;
      closed = c.self.inside.closed.entries;
      held =
          c.self.inside.held;
    })
    c.in-Some.connection.now c.wait.new.self
    (rw c.between-five_tuple.ensures at c.in-Some.ensures.value)
    (c.wait.ensures.weight ∙ ap (λ x. x.weight) c.get_mut.ensures.value))
