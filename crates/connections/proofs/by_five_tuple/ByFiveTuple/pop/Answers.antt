use Rattle.std.proofs.Common.{ap, refl, ◌∙◌}
use Rattle.connections.specs.ByFiveTuple.{keyed_table}
use Rattle.connections.proofs.HashLemmas.{lookup-unhashed, remove_entry-unhashed, AreHashed-remove_entry}
use Rattle.connections.proofs.by_five_tuple.ByFiveTuple.pop.Goals as goal

pub invariant_of-self : goal.invariant_of-self
invariant_of-self g c =
    rw c.pop.ensures.entries (
      AreHashed-remove_entry c.self.inside.keys c.args.five_tuple.now c.change_to.new.self
          c.change_to.ensures c.self.inside.table.entries c.self.invariant.0,
      rw c.change_to.ensures refl,
    )

pub returns-clause-value : goal.returns-clause-value
returns-clause-value g c =
    rw (← c.self.view_is)
    (c.pop.ensures.value ∙ lookup-unhashed c.self.inside.keys c.args.five_tuple.now
    c.change_to.new.self c.change_to.ensures c.self.inside.table.entries c.self.invariant.0)

pub returns-clause-entries : goal.returns-clause-entries
returns-clause-entries g c =
    rw (c.pop.ensures.entries, ← c.self.view_is)
    (ap (λ es. keyed_table c.self.inside.keys es c.self.inside.table.cap)
    (remove_entry-unhashed c.self.inside.keys c.args.five_tuple.now c.change_to.new.self
    c.change_to.ensures c.self.inside.table.entries c.self.invariant.0))
