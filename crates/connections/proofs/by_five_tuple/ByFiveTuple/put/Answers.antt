use Rattle.std.proofs.Common.{ap, refl}
use Rattle.connections.specs.ByFiveTuple.{keyed_table}
use Rattle.connections.proofs.HashLemmas.{put_entries-unhashed, AreHashed-put_entries}
use Rattle.connections.proofs.by_five_tuple.ByFiveTuple.put.Goals as goal

pub invariant_of-self-2 : goal.invariant_of-self-2
invariant_of-self-2 g c =
    rw c.in_ok-put.ensures.entries (
      AreHashed-put_entries c.self.inside.keys c.args.five_tuple c.change_to.new.self
          c.change_to.ensures c.self.inside.table c.args.value c.self.invariant.0,
      rw c.change_to.ensures refl,
    )

pub returns-clause-entries : goal.returns-clause-entries
returns-clause-entries g c =
    rw (c.in_ok-put.ensures.entries, ← c.self.view_is)
    (ap (λ es. keyed_table c.self.inside.keys es c.self.inside.table.cap)
    (put_entries-unhashed c.self.inside.keys c.args.five_tuple c.change_to.new.self
    c.change_to.ensures c.self.inside.table c.args.value c.self.invariant.0))
