use Rattle.std.proofs.Common.{◌≡◌, drop}
use Rattle.std.specs.Prelude.{fold}
use Rattle.preambles.specs.Words.{number_after}
use Rattle.preambles.proofs.words.number_in.Given as goal

abbrev pub invariant-loop-byte : goal.invariant-loop-byte
invariant-loop-byte l =
    fold number_after l.number (drop l.byte-index l.line) ≡ fold number_after 0 l.line
