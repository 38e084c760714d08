use Rattle.log_runs.proofs.SharingLemmas.{other_views, part_views}
use Rattle.log_runs.proofs.laws.parts_share_the_connections_out.Goals as goal

pub returns-clause-its : goal.returns-clause-its
returns-clause-its g c = λ b M part whole mine e shared its.
    part_views b M part whole mine e shared its

pub returns-clause-others : goal.returns-clause-others
returns-clause-others g c = λ b M part whole mine e shared other.
    other_views b M part whole mine e shared other
