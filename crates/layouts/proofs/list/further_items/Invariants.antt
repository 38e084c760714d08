use Rattle.std.proofs.Common.{map, length}
use Rattle.layouts.proofs.ListLemmas.{ListRead}
use Rattle.layouts.proofs.list.further_items.Given as goal

abbrev pub invariant-loop-alloc : goal.invariant-loop-alloc
invariant-loop-alloc g l =
    ListRead g.T.Item.layout (map g.T.Item.view l.fn.first.items) l.fn.i
    (map g.T.Item.view l.items.items) l.rest

abbrev pub decreases-loop-alloc : goal.decreases-loop-alloc
decreases-loop-alloc g l = length l.rest
