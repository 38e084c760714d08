use Rattle.std.proofs.Common.{arith}
use Rattle.layouts.proofs.OneAnswerLemmas.{read_allowed}
use Rattle.capture.specs.Pcapng.{simple_packet}
use Rattle.capture.proofs.block_packet.parse_simple_packet.Goals as goal

pub returns : goal.returns
unfolding simple_packet
returns c = grind (arith, read_allowed)
