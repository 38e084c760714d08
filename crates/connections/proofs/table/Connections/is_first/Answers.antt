use Rattle.std.proofs.Common.{ap, sym, ◌∙◌}
use Rattle.connections.proofs.TableLemmas.{promoted_first}
use Rattle.connections.proofs.table.Connections.is_first.Goals as goal

pub returns-in-Some : goal.returns-in-Some
returns-in-Some g c =
    rw (← c.self.view_is)
    (λ same. ap (λ l.
    record { live = l; closed = c.self.inside.closed.entries; held = c.self.inside.held })
    (promoted_first c.args.five_tuple.now c.self.inside.live.entries
    (c.in-Some.latest.now, c.in-Some.field-0-1.now) (sym c.in-Some.ensures)
    (sym c.eq.ensures ∙ same)))
