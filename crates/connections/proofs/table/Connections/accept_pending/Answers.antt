use Rattle.std.proofs.Common.{ap, subst, ◌∙◌}
use Rattle.connections.specs.Connection.{AcceptsKept, LeavesOutKept}
use Rattle.connections.specs.Waiting.{five_tuple_of_kept}
use Rattle.connections.proofs.ConnectionLemmas.{where_err, where_ok}
use Rattle.connections.proofs.MemoryLemmas.{accounted_written}
use Rattle.connections.proofs.TableLemmas.{comes_in}
use Rattle.connections.proofs.table.Connections.accept_pending.Goals as goal

pub returns-in-Some-clause-taken : goal.returns-in-Some-clause-taken
returns-in-Some-clause-taken g c =
    let k = c.args.kept.now in
    rw (c.between-five_tuple.ensures, ← c.self.view_is)
    (where_ok c.accept_pending.result
    (λ a. comes_in (five_tuple_of_kept k) (AcceptsKept k)
    (record {
      live = c.self.inside.live.entries;
      closed = c.self.inside.closed.entries;
      held =
          c.self.inside.held;
    })
    c.in-Some.connection.now c.accept_pending.new.self
    (rw c.between-five_tuple.ensures at c.in-Some.ensures.value)
    (subst (λ x. AcceptsKept k x c.accept_pending.new.self) c.get_mut-in-Some.ensures.value a))
    c.accept_pending.ensures.taken)

pub returns-in-Some-clause-left_out : goal.returns-in-Some-clause-left_out
returns-in-Some-clause-left_out g c =
    let k = c.args.kept.now in
    rw (c.between-five_tuple.ensures, ← c.self.view_is)
    (where_err c.accept_pending.result
    (λ a. comes_in (five_tuple_of_kept k) (LeavesOutKept k)
    (record {
      live = c.self.inside.live.entries;
      closed = c.self.inside.closed.entries;
      held =
          c.self.inside.held;
    })
    c.in-Some.connection.now c.accept_pending.new.self
    (rw c.between-five_tuple.ensures at c.in-Some.ensures.value)
    (subst (λ x. LeavesOutKept k x c.accept_pending.new.self) c.get_mut-in-Some.ensures.value a))
    c.accept_pending.ensures.left_out)

pub returns-in-Some-clause-accounted : goal.returns-in-Some-clause-accounted
returns-in-Some-clause-accounted g c =
    rw (← c.self.view_is)
    (accounted_written c.between-five_tuple.result
    (record {
      live = c.self.inside.live.entries;
      closed = c.self.inside.closed.entries;
      held =
          c.self.inside.held;
    })
    c.in-Some.connection.now c.accept_pending.new.self c.in-Some.ensures.value
    (c.accept_pending.ensures.weight ∙ ap (λ x. x.weight) c.get_mut-in-Some.ensures.value))
