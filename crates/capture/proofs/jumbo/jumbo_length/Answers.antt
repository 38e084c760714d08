use Rattle.std.proofs.Common.{arith}
use Rattle.layouts.proofs.OneAnswerLemmas.{read_allowed}
use Rattle.capture.specs.Jumbo.{jumbo_length}
use Rattle.capture.proofs.jumbo.jumbo_length.Goals as goal

pub returns : goal.returns
unfolding jumbo_length
returns c = grind (arith, read_allowed)
