use Rattle.std.proofs.Common.{arith}
use Rattle.layouts.proofs.OneAnswerLemmas.{read_allowed}
use Rattle.capture.specs.Link.{sll2}
use Rattle.capture.proofs.link.sll2.Goals as goal

pub returns : goal.returns
unfolding sll2
returns c = grind (arith, read_allowed)
