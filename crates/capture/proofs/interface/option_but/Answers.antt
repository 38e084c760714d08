use Rattle.std.proofs.Common.{arith}
use Rattle.layouts.proofs.OneAnswerLemmas.{read_allowed}
use Rattle.capture.specs.Pcapng.{option_but}
use Rattle.capture.proofs.interface.option_but.Goals as goal

pub returns : goal.returns
unfolding option_but
returns c = grind (arith, read_allowed)
