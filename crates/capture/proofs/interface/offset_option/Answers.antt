use Rattle.std.proofs.Common.{arith}
use Rattle.layouts.proofs.OneAnswerLemmas.{read_allowed}
use Rattle.capture.specs.Pcapng.{offset_option}
use Rattle.capture.proofs.interface.offset_option.Goals as goal

pub returns : goal.returns
unfolding offset_option
returns c = grind (arith, read_allowed)
