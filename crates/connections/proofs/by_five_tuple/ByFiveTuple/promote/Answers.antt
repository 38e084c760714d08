use Rattle.std.proofs.Common.{ap, refl}
use Rattle.connections.specs.ByFiveTuple.{keyed_table}
use Rattle.connections.proofs.HashLemmas.{promoted-unhashed, AreHashed-promoted}
use Rattle.connections.proofs.by_five_tuple.ByFiveTuple.promote.Goals as goal

pub invariant_of-self : goal.invariant_of-self
invariant_of-self g c =
    rw c.promote.ensures.entries (
      AreHashed-promoted c.self.inside.keys c.args.five_tuple.now c.change_to.new.self
          c.change_to.ensures c.self.inside.table.entries c.self.invariant.0,
      rw c.change_to.ensures refl,
    )

pub returns : goal.returns
returns g c =
    record {
      entries = rw (c.promote.ensures.entries, ← c.self.view_is)
          (ap (λ es. keyed_table c.self.inside.keys es c.self.inside.table.cap)
          (promoted-unhashed c.self.inside.keys c.args.five_tuple.now c.change_to.new.self
          c.change_to.ensures c.self.inside.table.entries c.self.invariant.0));
    }
