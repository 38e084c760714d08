use Rattle.std.proofs.Common.{arith}
use Rattle.layouts.proofs.OneAnswerLemmas.{read_allowed, one_answer}
use Rattle.capture.specs.Pcap.{packet}
use Rattle.capture.proofs.pcap.parse_pcap_packet.Goals as goal

pub returns-clause-gives : goal.returns-clause-gives
unfolding packet
returns-clause-gives c = grind (arith, read_allowed)

pub returns-clause-only_one : goal.returns-clause-only_one
returns-clause-only_one c = grind (arith, one_answer)
