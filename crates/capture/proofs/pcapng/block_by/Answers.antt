use Rattle.std.proofs.Common.{arith}
use Rattle.layouts.proofs.OneAnswerLemmas.{read_allowed}
use Rattle.capture.specs.Pcapng.{block_by}
use Rattle.capture.proofs.pcapng.block_by.Goals as goal

pub returns-then-total-lt12 : goal.returns-then-total-lt12
unfolding block_by
returns-then-total-lt12 c = grind (arith, read_allowed)

pub returns-then-total-gt-MAX_BLOCK_LEN : goal.returns-then-total-gt-MAX_BLOCK_LEN
unfolding block_by
returns-then-total-gt-MAX_BLOCK_LEN c = grind (arith, read_allowed)

pub returns-then-again-total : goal.returns-then-again-total
unfolding block_by
returns-then-again-total c = grind (arith, read_allowed)

pub returns : goal.returns
unfolding block_by
returns c = grind (arith, read_allowed)
