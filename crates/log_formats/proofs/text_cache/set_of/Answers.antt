use Rattle.std.proofs.Common.{sym, ap, ◌∙◌, ◌/◌, ◌%◌, rules}
use Rattle.std.specs.Prelude.{bit_xor}
use Rattle.log_formats.specs.Cached.{set_of, sum_behind}
use Rattle.log_formats.proofs.text_cache.set_of.Goals as goal

pub returns-clause-is : goal.returns-clause-is
unfolding set_of
returns-clause-is g c =
    let claim : g.claim c.lifetimes = search rules in
    let none = (g.met.T.Coded c.lifetimes claim).none c.loop-one.one-iterator.bytes.now
    c.in-None.ensures.steps.0 in
    ap (λ s. bit_xor s (s / 65536) % 16)
    (sym (ap (sum_behind c.loop-one.sum) none) ∙ c.loop-one.invariant.same)
