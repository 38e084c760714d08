use Rattle.layouts.proofs.TableLemmas.{place_found}
use Rattle.layouts.proofs.table.place.Goals as goal

pub returns : goal.returns
returns c =
    place_found c.args.table.now c.args.n c.binary_search.result c.ok.result c.requires
    c.binary_search.ensures.position
    c.ok.ensures.value
