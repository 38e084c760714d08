use Rattle.std.proofs.Common.{ap, refl, sym, subst}
use Rattle.std.proofs.lemmas.Map.Steps.{set_value_same}
use Rattle.connections.specs.Connection.{IsAfter}
use Rattle.connections.specs.Datagram.{five_tuple_of_datagram}
use Rattle.connections.specs.FiveTuple.{is_five_tuple}
use Rattle.connections.specs.declared.five_tuple.Protocol.TheVariants.{Udp}
use Rattle.connections.proofs.MemoryLemmas.{accounted_replaced, accounted_with}
use Rattle.connections.proofs.TableLemmas.{after_at, begun_written, on_err}
use Rattle.connections.proofs.table.Connections.take_exchange.Goals as goal

pub returns-in_err-another-clause-err : goal.returns-in_err-another-clause-err
returns-in_err-another-clause-err g c =
    let e = five_tuple_of_datagram c.args.datagram.now in let xs = c.self.inside.live.entries in
    rw (c.between-five_tuple.ensures, ← c.self.view_is)
    (on_err c.from_residual.result
    (ap (λ l. record {
      live = l;
      closed = c.self.inside.closed.entries;
      held =
          c.self.inside.held;
    })
    (set_value_same (is_five_tuple e) xs c.in-Some.exchange.now
    (sym (rw c.between-five_tuple.ensures at c.in-Some.ensures.value)))))

pub returns-in_err-another-clause-accounted : goal.returns-in_err-another-clause-accounted
returns-in_err-another-clause-accounted g c =
    rw (c.between-five_tuple.ensures, ← c.self.view_is)
    (accounted_with (five_tuple_of_datagram c.args.datagram.now)
    (record {
      live = c.self.inside.live.entries;
      closed = c.self.inside.closed.entries;
      held =
          c.self.inside.held;
    })
    c.in-Some.exchange.now c.in-Some.exchange.now
    (rw c.between-five_tuple.ensures at c.in-Some.ensures.value) refl)

pub returns-clause-left : goal.returns-clause-left
returns-clause-left g c =
    rw (
      c.between-five_tuple.ensures,
      ← c.self.view_is,
      c.replace.ensures.after,
      c.in_ok-another.ensures,
    )
    (after_at c.args.datagram.now
    (record {
      live = c.self.inside.live.entries;
      closed = c.self.inside.closed.entries;
      held =
          c.self.inside.held;
    })
    c.in-Some.exchange.now c.after.result c.saturating_sub-self-inside.result
    (rw c.between-five_tuple.ensures at c.in-Some.ensures.value)
    (subst (λ x. IsAfter c.args.datagram.now x c.after.result) c.get.ensures c.after.ensures.after)
    (rw (c.deref.ensures, c.into_box-over.ensures, c.replace.ensures.value) at
    c.saturating_sub-self-inside.ensures))

pub returns-clause-accounted : goal.returns-clause-accounted
returns-clause-accounted g c =
    rw (
      c.between-five_tuple.ensures,
      ← c.self.view_is,
      c.replace.ensures.after,
      c.in_ok-another.ensures,
    )
    (accounted_replaced (five_tuple_of_datagram c.args.datagram.now)
    (record {
      live = c.self.inside.live.entries;
      closed = c.self.inside.closed.entries;
      held =
          c.self.inside.held;
    })
    c.in-Some.exchange.now c.after.result c.saturating_sub-self-inside.result
    (rw c.between-five_tuple.ensures at c.in-Some.ensures.value)
    (ap (λ x. x.weight) c.after.ensures.after)
    (rw (c.deref.ensures, c.into_box-over.ensures, c.replace.ensures.value) at
    c.saturating_sub-self-inside.ensures))

pub returns-clause-attached : goal.returns-clause-attached
returns-clause-attached g c =
    rw (c.between-five_tuple.ensures, c.replace.ensures.after, c.in_ok-another.ensures)
    (begun_written g.T.Attachment.IsBegun Udp (five_tuple_of_datagram c.args.datagram.now)
    c.self.inside.live.entries c.in-Some.exchange.now c.after.result
    (rw c.between-five_tuple.ensures at c.in-Some.ensures.value) c.after.ensures.attached)
