use Rattle.std.proofs.Common.{arith}
use Rattle.layouts.proofs.OneAnswerLemmas.{read_allowed}
use Rattle.capture.specs.Jumbo.{jumbo_option}
use Rattle.capture.proofs.jumbo.jumbo_option.Goals as goal

pub returns : goal.returns
unfolding jumbo_option
returns c = grind (arith, read_allowed)
