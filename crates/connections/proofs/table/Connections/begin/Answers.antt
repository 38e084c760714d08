use Rattle.std.proofs.Common.{refl, ap, sym, ◌∙◌, subst}
use Rattle.connections.specs.Connection.{Accepts}
use Rattle.connections.specs.Table.{others}
use Rattle.connections.specs.declared.five_tuple.Protocol.TheVariants.{Tcp}
use Rattle.connections.proofs.MemoryLemmas.{accounted_first}
use Rattle.connections.proofs.TableLemmas.{begun_first}
use Rattle.connections.proofs.table.Connections.begin.Goals as goal

pub returns-clause-begun : goal.returns-clause-begun
returns-clause-begun g c =
    rw (← c.self.view_is) (record {
      its = c.accept.new.self;
      takes = (
        c.of_segment.result,
        c.of_segment.ensures.begun,
        subst (λ x. Accepts c.args.segment.now x c.accept.new.self)
            (c.get_mut.ensures.value ∙ c.in_ok-connection.ensures) c.in_ok-accept.ensures.taken,
      );
      stands = rw (c.in_ok-put_under.ensures.put, c.pop.ensures.entries) refl;
    })

pub returns-clause-accounted : goal.returns-clause-accounted
returns-clause-accounted g c =
    rw (c.in_ok-put_under.ensures.put, ← c.self.view_is)
    (λ h. accounted_first c.args.five_tuple
    (record {
      live = c.self.inside.live.entries;
      closed = c.self.inside.closed.entries;
      held =
          c.self.inside.held;
    })
    c.accept.new.self c.pop.new.self.entries (sym h)
    (c.accept.ensures.weight ∙ ap (λ x. x.weight)
    (c.get_mut.ensures.value ∙ c.in_ok-connection.ensures ∙ c.of_segment.ensures.begun)))

pub returns-clause-attached : goal.returns-clause-attached
returns-clause-attached g c =
    begun_first g.T.Attachment.IsBegun Tcp c.args.five_tuple
    (others c.args.five_tuple c.self.inside.live.entries) c.put_under.new.table.entries
    c.accept.new.self c.in_ok-put_under.ensures.put
    (subst (g.T.Attachment.IsBegun Tcp)
    (sym (c.accept.ensures.attachment ∙ ap (λ x. x.attachment)
    (c.get_mut.ensures.value ∙ c.in_ok-connection.ensures))) c.of_segment.ensures.attached)
