use Rattle.std.proofs.Common.{arith}
use Rattle.layouts.proofs.OneAnswerLemmas.{read_allowed}
use Rattle.capture.specs.Ip.{skipped}
use Rattle.capture.proofs.ip.skipped.Goals as goal

pub returns : goal.returns
unfolding skipped
returns c = grind (arith, read_allowed)
