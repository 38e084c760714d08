use Rattle.std.proofs.Common.{◌∙◌}
use Rattle.connections.proofs.HashLemmas.{lookup-unhashed}
use Rattle.connections.proofs.by_five_tuple.ByFiveTuple.peek.Goals as goal

pub returns : goal.returns
returns g c =
    rw (← c.self.view_is)
    (c.peek.ensures ∙ lookup-unhashed c.self.inside.keys c.args.five_tuple.now c.known-ends.result
    c.known-ends.ensures c.self.inside.table.entries c.self.invariant.0)
