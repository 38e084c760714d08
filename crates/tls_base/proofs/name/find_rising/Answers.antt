use Rattle.std.proofs.Common.{◌∙◌, sym}
use Rattle.tls_base.proofs.RisingLemmas.{found_beside, found_nowhere, got}
use Rattle.tls_base.proofs.name.find_rising.Goals as goal

pub returns-in-Some : goal.returns-in-Some
returns-in-Some c =
    c.copied.ensures
    ∙ got c.args.names.now c.in-Some.k c.get.result c.get.ensures.lookup.3
    ∙ sym (found_beside c.args.numbers.now c.args.names.now c.args.n c.in-Some.k c.in-Some.ensures)

pub returns-in-None : goal.returns-in-None
returns-in-None c =
    sym (found_nowhere c.args.numbers.now c.args.names.now c.args.n c.in-None.ensures)
