use Rattle.connections.proofs.TableLemmas.{at-others}
use Rattle.connections.proofs.laws.what_stands_under_other_ends_stays.Goals as goal

pub returns : goal.returns
returns g c = λ e f apart xs. at-others e f apart xs
