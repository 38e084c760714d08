use Rattle.std.proofs.Common.{arith}
use Rattle.layouts.proofs.OneAnswerLemmas.{read_allowed}
use Rattle.capture.specs.Pcapng.{resolution_option}
use Rattle.capture.proofs.interface.resolution_option.Goals as goal

pub returns : goal.returns
unfolding resolution_option
returns c = grind (arith, read_allowed)
