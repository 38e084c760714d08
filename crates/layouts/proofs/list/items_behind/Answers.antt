use Rattle.std.proofs.Common.{rules, map}
use Rattle.layouts.specs.Bytes.{AreBytes}
use Rattle.layouts.proofs.ListLemmas.{list_none, list_ends_over}
use Rattle.layouts.proofs.list.items_behind.Goals as goal

pub returns-then-is_empty : goal.returns-then-is_empty
returns-then-is_empty g c =
    let are : AreBytes c.args.i.now = search rules in
    list_ends_over g.T.Item.view g.T.Item.layout (map g.T.Item.view c.args.first.items) c.args.i.now
    (λ v. map g.T.Item.view v.items) c.args.first c.args.i are
    (list_none g.T.Item.layout (map g.T.Item.view c.args.first.items) c.args.i.now) (search rules)
