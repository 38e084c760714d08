use Rattle.std.proofs.Common.{arith}
use Rattle.layouts.proofs.OneAnswerLemmas.{read_allowed}
use Rattle.capture.specs.Pcapng.{enhanced_packet}
use Rattle.capture.proofs.block_packet.parse_enhanced_packet.Goals as goal

pub returns : goal.returns
unfolding enhanced_packet
returns c = grind (arith, read_allowed)
