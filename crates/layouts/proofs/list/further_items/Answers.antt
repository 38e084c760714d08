use Rattle.std.proofs.Common.{arith, rules, map}
use Rattle.layouts.specs.Bytes.{AreBytes}
use Rattle.layouts.proofs.ListLemmas.{list_push, list_ends_over, list_ends_still, list_ends_refused}
use Rattle.layouts.proofs.list.further_items.Goals as goal

pub loop-alloc-preserved : goal.loop-alloc-preserved
loop-alloc-preserved g c =
    rw c.in_ok-push-in-Ok.ensures.items
    (list_push g.T.Item.view g.T.Item.layout (map g.T.Item.view c.args.first.items) c.args.i.now
    c.loop-alloc.items.items _ c.in-Ok.item c.in-Ok.after c.loop-alloc.invariant c.in-Ok.ensures
    (omega arith))

pub returns-in_default : goal.returns-in_default
returns-in_default g c = search (rules, list_ends_refused, list_ends_still)

pub returns : goal.returns
returns g c =
    let are : AreBytes c.args.i.now = search rules in
    list_ends_over g.T.Item.view g.T.Item.layout (map g.T.Item.view c.args.first.items) c.args.i.now
    (λ v. map g.T.Item.view v.items) c.loop-alloc.items c.loop-alloc.rest are c.loop-alloc.invariant
    (search rules)
