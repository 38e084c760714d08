-- The rules that prove `Gives` for a reader.
use Rattle.std.proofs.lemmas.Grind.{common_steps}
use Rattle.layouts.proofs.OneAnswerLemmas.{read_allowed}

pub ruleset reads = (read_allowed, common_steps)
