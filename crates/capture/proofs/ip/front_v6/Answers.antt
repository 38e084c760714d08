use Rattle.std.proofs.Common.{arith}
use Rattle.layouts.proofs.OneAnswerLemmas.{read_allowed}
use Rattle.capture.specs.Ip.{front_v6}
use Rattle.capture.proofs.ip.front_v6.Goals as goal

pub returns-then-first-ne6 : goal.returns-then-first-ne6
unfolding front_v6
returns-then-first-ne6 c = grind (arith, read_allowed)

pub returns : goal.returns
unfolding front_v6
returns c = grind (arith, read_allowed)
