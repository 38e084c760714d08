use Rattle.std.proofs.Common.{◌≡◌, length, map}
use Rattle.x509_text.specs.Chain.{chain_in_order, names_of}
use Rattle.x509_text.proofs.certificate.is_chain_in_order.Given as goal

abbrev pub invariant-loop-rest : goal.invariant-loop-rest
invariant-loop-rest l = chain_in_order (map names_of l.rest) ≡ chain_in_order (map names_of l.fn.chain)

abbrev pub decreases-loop-rest : goal.decreases-loop-rest
decreases-loop-rest l = length l.rest
