use Rattle.std.proofs.Common.{arith}
use Rattle.layouts.proofs.OneAnswerLemmas.{read_allowed}
use Rattle.capture.specs.Pcapng.{section_order}
use Rattle.capture.proofs.pcapng.section_order.Goals as goal

pub returns : goal.returns
unfolding section_order
returns c = grind (arith, read_allowed)
