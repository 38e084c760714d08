use Rattle.std.proofs.Common.{arith}
use Rattle.layouts.proofs.OneAnswerLemmas.{read_allowed}
use Rattle.capture.specs.Pcapng.{interface}
use Rattle.capture.proofs.interface.parse_interface.Goals as goal

pub returns : goal.returns
unfolding interface
returns c = grind (arith, read_allowed)
