use Rattle.std.proofs.Common.{arith}
use Rattle.layouts.proofs.OneAnswerLemmas.{read_allowed}
use Rattle.capture.specs.Ip.{fragment_header}
use Rattle.capture.proofs.ip.fragment_header.Goals as goal

pub returns : goal.returns
unfolding fragment_header
returns c = grind (arith, read_allowed)
