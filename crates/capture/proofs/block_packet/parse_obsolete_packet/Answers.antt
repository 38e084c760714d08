use Rattle.std.proofs.Common.{arith}
use Rattle.layouts.proofs.OneAnswerLemmas.{read_allowed}
use Rattle.capture.specs.Pcapng.{obsolete_packet}
use Rattle.capture.proofs.block_packet.parse_obsolete_packet.Goals as goal

pub returns : goal.returns
unfolding obsolete_packet
returns c = grind (arith, read_allowed)
