use Rattle.std.proofs.Common.{◌∙◌}
use Rattle.wispuddera_c.proofs.SideLemmas.{joins_next}
use Rattle.wispuddera_c.proofs.side.Side.settle.Goals as goal

pub fragments-smaller : goal.fragments-smaller
fragments-smaller c =
    (joins_next c.args.known c.fragments.buffer c.join.new.buffer c.fragments.self c.join.new.self
    c.view.result
    c.in-Joins.kind c.in-Joins.n c.view.ensures c.in-Joins.ensures
    (c.join.ensures.joined c.args.known)).0

pub fragments-preserved : goal.fragments-preserved
fragments-preserved c = record {
  same = λ s. (joins_next c.args.known c.fragments.buffer c.join.new.buffer c.fragments.self
      c.join.new.self
      c.view.result c.in-Joins.kind c.in-Joins.n c.view.ensures c.in-Joins.ensures
      (c.join.ensures.joined c.args.known)).1 s
      ∙ c.fragments.invariant.same s;
  within = c.join.ensures.within;
  over = c.join.ensures.over ∙ c.fragments.invariant.over;
}
