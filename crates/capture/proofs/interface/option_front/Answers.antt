use Rattle.std.proofs.Common.{arith}
use Rattle.layouts.proofs.OneAnswerLemmas.{read_allowed}
use Rattle.capture.specs.Pcapng.{option_front}
use Rattle.capture.proofs.interface.option_front.Goals as goal

pub returns : goal.returns
unfolding option_front
returns c = grind (arith, read_allowed)
