-- What values hold.
use Rattle.std.specs.Prelude.{◌≡◌, ℕ, List}
use Rattle.preambles.specs.Rows.{next}
use Rattle.preambles.specs.Words.{command_of}
use Rattle.preambles.specs.declared.phase.Phase.{Phase}

-- Whatever a phase reads, the same phase follows.
abbrev pub IsBlind : Phase → Type 0
IsBlind p = (b c : List ℕ) → next p b ≡ next p c

-- Of a line only the first two words count.
abbrev pub SeesCommandsAlone : Phase → Type 0
SeesCommandsAlone p = (b c : List ℕ) → command_of b ≡ command_of c → next p b ≡ next p c
