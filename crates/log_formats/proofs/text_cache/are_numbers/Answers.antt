use Rattle.std.proofs.Common.{◌≡◌, length, sym, ap, ◌∙◌, arith, rules, true≢false}
use Rattle.log_formats.proofs.text_cache.are_numbers.Goals as goal

pub returns-in_default : goal.returns-in_default
returns-in_default g c =
    let claim : g.claim c.lifetimes = search rules in
    let first = (g.met.T.Coded c.lifetimes claim).first c.loop-one.one-iterator.bytes.now
    c.next.new.self.bytes.now c.in-Some.one c.in-Some.ensures.steps in
    let empty : length c.loop-one.left.now ≡ 0 = search rules in (
      λ is. absurd (true≢false (sym is)),
      λ is. let some = ap length (c.loop-one.invariant.same.1 is ∙ first) in
          absurd (omega (arith, empty, some)),
    )
