use Rattle.std.proofs.Common.{◌≡◌, length}
use Rattle.layouts.specs.Items.{left_in}
use Rattle.layouts.proofs.in_place.Items.rest.Given as goal

abbrev pub invariant-loop-after : goal.invariant-loop-after
invariant-loop-after g l =
    left_in g.T.InPlace.layout l.fn.self.bytes.now ≡ left_in g.T.InPlace.layout l.rest

abbrev pub decreases-loop-after : goal.decreases-loop-after
decreases-loop-after g l = length l.rest
