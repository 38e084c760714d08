use Rattle.std.proofs.Common.{arith}
use Rattle.layouts.proofs.OneAnswerLemmas.{read_allowed, one_answer}
use Rattle.capture.specs.Pcap.{header}
use Rattle.capture.proofs.pcap.parse_pcap_header.Goals as goal

pub returns-then-major-ne2-clause-gives : goal.returns-then-major-ne2-clause-gives
unfolding header
returns-then-major-ne2-clause-gives c = grind (arith, read_allowed)

pub returns-then-major-ne2-clause-only_one : goal.returns-then-major-ne2-clause-only_one
returns-then-major-ne2-clause-only_one c = grind (arith, one_answer)

pub returns-clause-gives : goal.returns-clause-gives
unfolding header
returns-clause-gives c = grind (arith, read_allowed)

pub returns-clause-only_one : goal.returns-clause-only_one
returns-clause-only_one c = grind (arith, one_answer)
