use Rattle.tls_base.proofs.NameLemmas.{name_shown}
use Rattle.tls_base.proofs.name.write_name.Goals as goal

pub returns : goal.returns
returns g c =
    rw (name_shown c.args.type_name.now c.args.table.now c.args.n c.find_number.result
    c.find_number.ensures)
    c.write_shown.ensures
