use Rattle.connections.proofs.EndLemmas.{both_directions}
use Rattle.connections.proofs.laws.both_directions_have_the_same_ends.Goals as goal

pub returns : goal.returns
returns c = both_directions c.is_ordered.ensures.agrees c.is_ordered.ensures.total
    c.is_ordered.ensures.partial
