use Rattle.std.proofs.Common.{ap, option_map, ◌∙◌}
use Rattle.connections.specs.ByFiveTuple.{keyed_table, unhashed_entry}
use Rattle.connections.proofs.HashLemmas.{front-unhashed, last_entry-unhashed}
use Rattle.connections.proofs.by_five_tuple.ByFiveTuple.pop_lru.Goals as goal

pub returns-clause-value : goal.returns-clause-value
returns-clause-value g c =
    rw (← c.self.view_is) (ap (option_map unhashed_entry) c.in_ok-ends.ensures.value
    ∙ last_entry-unhashed c.self.inside.table.entries)

pub returns-clause-entries : goal.returns-clause-entries
returns-clause-entries g c =
    rw (c.pop_lru.ensures.entries, ← c.self.view_is)
    (ap (λ es. keyed_table c.self.inside.keys es c.self.inside.table.cap) (front-unhashed c.self.inside.table.entries))
