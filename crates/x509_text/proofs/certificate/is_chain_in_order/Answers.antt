use Rattle.std.proofs.Common.{◌∙◌, sym, arith}
use Rattle.x509_text.proofs.ChainLemmas.{short_in_order}
use Rattle.x509_text.proofs.certificate.is_chain_in_order.Goals as goal

pub returns : goal.returns
returns c =
    sym (short_in_order c.loop-rest.rest.now (omega (arith, c.in_default.len_below)))
    ∙ c.loop-rest.invariant
