use Rattle.log_runs.proofs.ShareLemmas.{part_alone, part_kept, part_stays}
use Rattle.log_runs.proofs.laws.parts_follow_from_their_own_packets.Goals as goal

pub returns-clause-step : goal.returns-clause-step
returns-clause-step g c = λ M part a old new over accepts other.
    part_stays M part a old new over accepts other

pub returns-clause-others : goal.returns-clause-others
returns-clause-others g c = λ M part limit packets reader read old new before after handles e own others.
    part_kept M part e handles own others

pub returns-clause-alone : goal.returns-clause-alone
returns-clause-alone g c = λ M part limit packets reader old new before after run e held own other.
    part_alone M part e limit packets reader old new before after run held own other
