use Rattle.std.proofs.Common.{arith}
use Rattle.layouts.proofs.OneAnswerLemmas.{read_allowed}
use Rattle.capture.specs.Transport.{numbers}
use Rattle.capture.proofs.transport.read_numbers.Goals as goal

pub returns : goal.returns
unfolding numbers
returns c = grind (arith, read_allowed)
