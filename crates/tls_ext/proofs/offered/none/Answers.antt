use Rattle.std.proofs.Common.{[], ◌∙◌, ap, arith}
use Rattle.layouts.specs.Items.{items_in}
use Rattle.layouts.proofs.ItemsLemmas.{none_in}
use Rattle.tls_ext.proofs.offered.none.Goals as goal

pub returns : goal.returns
returns g c = ap (λ b. items_in g.T.InPlace.layout b) c.new.ensures
    ∙ none_in g.T.InPlace.layout [] (omega arith)
