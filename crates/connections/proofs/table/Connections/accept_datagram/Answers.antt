use Rattle.std.proofs.Common.{◌≡◌, true, ap, subst, ◌∙◌}
use Rattle.connections.specs.Connection.{shows_damage, side_of, TakesDatagramIn}
use Rattle.connections.specs.Datagram.{five_tuple_of_datagram}
use Rattle.connections.specs.Table.{others, TakesDatagram}
use Rattle.connections.proofs.MemoryLemmas.{accounted_first, accounted_written}
use Rattle.connections.proofs.TableLemmas.{begun_in, begun_new, put_in, put_new}
use Rattle.connections.proofs.table.Connections.accept_datagram.Goals as goal

pub returns-in-Some-clause-put : goal.returns-in-Some-clause-put
returns-in-Some-clause-put g c =
    let d = c.args.datagram.now in let e = five_tuple_of_datagram d in let xs =
    c.self.inside.live.entries in
    rw (c.between-five_tuple.ensures, ← c.self.view_is)
    (put_in e (TakesDatagram d) xs c.take_datagram.new.self c.in-Some.exchange.now
    (rw c.between-five_tuple.ensures at c.in-Some.ensures.value)
    (subst (λ x. TakesDatagramIn d x c.take_datagram.new.self) c.get_mut-in-Some.ensures.value
    c.take_datagram.ensures.taken))

pub returns-clause-put : goal.returns-clause-put
returns-clause-put g c =
    let d = c.args.datagram.now in let e = five_tuple_of_datagram d in let xs =
    c.self.inside.live.entries in
    rw (← c.self.view_is)
    (put_new e (TakesDatagram d) xs c.of_datagram.result c.put_under.new.table.entries
    (rw c.between-five_tuple.ensures at c.in_default.ensures.value)
    c.of_datagram.ensures.begun
    (rw (c.between-five_tuple.ensures, c.in_ok-exchange.ensures) at
    c.in_ok-put_under.ensures.put))

pub returns-in-Some-clause-accounted : goal.returns-in-Some-clause-accounted
returns-in-Some-clause-accounted g c =
    rw (c.between-five_tuple.ensures, ← c.self.view_is)
    (accounted_written (five_tuple_of_datagram c.args.datagram.now)
    (record {
      live = c.self.inside.live.entries;
      closed = c.self.inside.closed.entries;
      held =
          c.self.inside.held;
    })
    c.in-Some.exchange.now c.take_datagram.new.self
    (rw c.between-five_tuple.ensures at c.in-Some.ensures.value)
    (c.take_datagram.ensures.weight ∙ ap (λ x. x.weight) c.get_mut-in-Some.ensures.value))

pub returns-clause-accounted : goal.returns-clause-accounted
returns-clause-accounted g c =
    rw (c.in_ok-put_under.ensures.put, c.in_ok-exchange.ensures, ← c.self.view_is)
    (accounted_first c.between-five_tuple.result
    (record {
      live = c.self.inside.live.entries;
      closed = c.self.inside.closed.entries;
      held =
          c.self.inside.held;
    })
    c.of_datagram.result c.self.inside.closed.entries c.in_default.ensures.value
    c.of_datagram.ensures.weight)

pub returns-in-Some-clause-attached : goal.returns-in-Some-clause-attached
returns-in-Some-clause-attached g c =
    let d = c.args.datagram.now in
    rw (c.between-five_tuple.ensures, ← c.self.view_is)
    (begun_in g.T.Attachment.IsBegun d c.self.inside.live.entries c.in-Some.exchange.now
    c.take_datagram.new.self (rw c.between-five_tuple.ensures at c.in-Some.ensures.value)
    (subst (λ x. shows_damage (side_of x d.source) d.checksum x ≡ true
    → g.T.Attachment.IsBegun x.protocol c.take_datagram.new.self.attachment)
    c.get_mut-in-Some.ensures.value c.take_datagram.ensures.attached))

pub returns-clause-attached : goal.returns-clause-attached
returns-clause-attached g c =
    let d = c.args.datagram.now in let xs = c.self.inside.live.entries in
    rw (← c.self.view_is)
    (begun_new g.T.Attachment.IsBegun d xs c.put_under.new.table.entries
    (others (five_tuple_of_datagram d) xs) c.of_datagram.result
    (rw c.between-five_tuple.ensures at c.in_default.ensures.value)
    (rw (c.between-five_tuple.ensures, c.in_ok-exchange.ensures) at
    c.in_ok-put_under.ensures.put) c.of_datagram.ensures.attached)
