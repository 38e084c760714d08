use Rattle.std.proofs.Common.{ap, arith, ◌+◌, ◌∙◌}
use Rattle.connections.specs.declared.connection.Connection.{Connection}
use Rattle.connections.proofs.MemoryLemmas.{accounted_settled, settled_at}
use Rattle.connections.proofs.table.Connections.settle.Goals as goal

pub returns-clause-settled : goal.returns-clause-settled
returns-clause-settled g c =
    rw (← c.self.view_is)
    (settled_at g.T.Attachment.most_bytes c.args.five_tuple.now
    (record {
      live = c.self.inside.live.entries;
      closed = c.self.inside.closed.entries;
      held =
          c.self.inside.held;
    })
    c.in-Some.connection.now c.settle.new.self
    (c.saturating_sub-others.result + c.settle.new.self.weight) c.in-Some.ensures.value
    (c.settle.ensures.settled ∙ ap {A = Connection _}
    (λ x. record x { weight = c.settle.new.self.weight }) c.get_mut-connection.ensures.value)
    (λ h. c.settle.ensures.enough
    (let less = rw c.get_mut-connection.ensures.value at c.saturating_sub-others.ensures in
    omega (arith, h, less)))
    c.settle.ensures.bounded
    (ap (λ x. x + c.settle.new.self.weight)
    (rw c.get_mut-connection.ensures.value at c.saturating_sub-others.ensures)))

pub returns-clause-accounted : goal.returns-clause-accounted
returns-clause-accounted g c =
    rw (← c.self.view_is)
    (accounted_settled c.args.five_tuple.now
    (record {
      live = c.self.inside.live.entries;
      closed = c.self.inside.closed.entries;
      held =
          c.self.inside.held;
    })
    c.in-Some.connection.now c.settle.new.self
    (c.saturating_sub-others.result + c.settle.new.self.weight) c.in-Some.ensures.value
    (ap (λ x. x + c.settle.new.self.weight)
    (rw c.get_mut-connection.ensures.value at c.saturating_sub-others.ensures)))
