use Rattle.std.specs.List.{zip}
use Rattle.tls_base.proofs.NameLemmas.{name_shown}
use Rattle.tls_base.proofs.name.write_rising.Goals as goal

pub returns : goal.returns
returns g c =
    rw
    (name_shown c.args.type_name.now (zip c.args.numbers.now c.args.names.now) c.args.n
    c.find_rising.result
    c.find_rising.ensures)
    c.write_shown.ensures
