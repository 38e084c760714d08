use Rattle.std.proofs.Common.{◌≡◌, ◌≤◌, ◌-◌, ◌++◌, length, drop, take}
use Rattle.preambles.specs.Words.{first_word, behind_word}
use Rattle.preambles.proofs.words.split_word.Given as goal

abbrev pub invariant-loop-end : goal.invariant-loop-end
invariant-loop-end l =
    (l.end ≤ length l.line)
    × (first_word l.line ≡ take l.end l.line ++ first_word (drop l.end l.line))
    × (behind_word l.line ≡ behind_word (drop l.end l.line))

abbrev pub decreases-loop-end : goal.decreases-loop-end
decreases-loop-end l = length l.line - l.end
