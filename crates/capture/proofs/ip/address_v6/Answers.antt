use Rattle.std.proofs.Common.{arith}
use Rattle.layouts.proofs.OneAnswerLemmas.{read_allowed}
use Rattle.capture.specs.Ip.{address_v6}
use Rattle.capture.proofs.ip.address_v6.Goals as goal

pub returns : goal.returns
unfolding address_v6
returns c = grind (arith, read_allowed)
