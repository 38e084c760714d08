use Rattle.std.proofs.Common.{arith}
use Rattle.layouts.proofs.OneAnswerLemmas.{read_allowed}
use Rattle.capture.specs.Pcapng.{packet_of}
use Rattle.capture.proofs.block_packet.packet_of.Goals as goal

pub returns : goal.returns
unfolding packet_of
returns c = grind (arith, read_allowed)
