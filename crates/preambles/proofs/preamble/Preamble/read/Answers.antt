use Rattle.std.proofs.Common.{◌≡◌, ◌+◌, true, drop, arith, sym, ◌∙◌, ap}
use Rattle.preambles.specs.Walk.{is_due, view, walk_behind}
use Rattle.preambles.proofs.WalkLemmas.{walk_step}
use Rattle.preambles.proofs.preamble.Preamble.read.Goals as goal

pub loop-count-preserved : goal.loop-count-preserved
loop-count-preserved c =
    let due : is_due c.args.side (view c.loop-count.self) ≡ true =
    sym c.is_due.ensures ∙ c.if-is_due.true in (
      omega (arith, c.loop-count-test.true),
      λ client server. c.loop-count.invariant.1 client server
          ∙ walk_step c.args.side c.args.bytes.now client server (view c.loop-count.self)
          c.loop-count.count c.loop-count-test.true due
          ∙ ap (λ p. walk_behind c.args.side (drop (c.loop-count.count + 1) c.args.bytes.now) client
          server p) (sym c.step.ensures),
    )
