use Rattle.std.proofs.Common.{ap, ◌∙◌}
use Rattle.connections.specs.Connection.{without_syns}
use Rattle.connections.specs.Segment.{five_tuple_of}
use Rattle.connections.specs.declared.connection.Connection.{Connection}
use Rattle.connections.specs.declared.five_tuple.Protocol.TheVariants.{Tcp}
use Rattle.connections.proofs.MemoryLemmas.{accounted_replaced_first}
use Rattle.connections.proofs.TableLemmas.{begun_promoted, replaced_by}
use Rattle.connections.proofs.table.Connections.take_replaced.Goals as goal

pub returns-clause-replaced : goal.returns-clause-replaced
returns-clause-replaced g c =
    let was = c.deref_mut.ensures.value ∙ c.into_box-over.ensures ∙ c.replace.ensures.value in
    rw (c.between-five_tuple.ensures, ← c.self.view_is, c.replace.ensures.after)
    (replaced_by c.args.segment.now
    (record {
      live = c.self.inside.live.entries;
      closed = c.self.inside.closed.entries;
      held =
          c.self.inside.held;
    })
    c.in-Some-another.beginning c.in_ok-another.another c.in-Some.connection.now
    c.in-Some-get_mut.place.now
    c.forget_syns.new.self c.saturating_sub-self-inside.result
    c.in-Some-another.ensures.shows (rw c.get.ensures at c.in-Some-another.ensures.is)
    c.in-Some-another.ensures.bare c.in_ok-another.ensures.begun
    (rw c.between-five_tuple.ensures at c.in-Some.ensures)
    (rw c.between-five_tuple.ensures at c.in-Some-get_mut.ensures.value)
    (c.forget_syns.ensures ∙ ap {A = Connection _} without_syns was)
    (rw c.deref.ensures at c.saturating_sub-self-inside.ensures))

pub returns-clause-accounted : goal.returns-clause-accounted
returns-clause-accounted g c =
    let was = c.deref_mut.ensures.value ∙ c.into_box-over.ensures ∙ c.replace.ensures.value in
    let same = ap (λ x. x.weight) c.forget_syns.ensures ∙ ap (λ x. x.weight) was in
    rw (c.between-five_tuple.ensures, ← c.self.view_is, c.replace.ensures.after)
    (accounted_replaced_first (five_tuple_of c.args.segment.now)
    (record {
      live = c.self.inside.live.entries;
      closed = c.self.inside.closed.entries;
      held =
          c.self.inside.held;
    })
    c.in-Some-get_mut.place.now c.in_ok-another.another c.saturating_sub-self-inside.result
    (rw c.between-five_tuple.ensures at c.in-Some-get_mut.ensures.value)
    c.in_ok-another.ensures.weight
    (rw (c.deref.ensures, same) at c.saturating_sub-self-inside.ensures))

pub returns-clause-attached : goal.returns-clause-attached
returns-clause-attached g c =
    rw (c.between-five_tuple.ensures, c.replace.ensures.after)
    (begun_promoted g.T.Attachment.IsBegun Tcp (five_tuple_of c.args.segment.now)
    c.self.inside.live.entries c.in-Some-get_mut.place.now c.in_ok-another.another
    (rw c.between-five_tuple.ensures at c.in-Some-get_mut.ensures.value)
    c.in_ok-another.ensures.attached)
