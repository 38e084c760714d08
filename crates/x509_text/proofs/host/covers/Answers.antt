use Rattle.std.proofs.Common.{arith}
use Rattle.x509_text.proofs.HostLemmas.{covers_split}
use Rattle.x509_text.proofs.host.covers.Goals as goal

pub returns-then-stands_for : goal.returns-then-stands_for
returns-then-stands_for c =
    let parts = covers_split c.args.pattern.now c.args.host.now c.first_label.result.0.now
    c.first_label-2.result.0.now
    c.first_label.result.1 c.first_label-2.result.1 c.first_label.ensures.split
    c.first_label-2.ensures.split in
    grind (arith, parts)

pub returns-else-stands_for : goal.returns-else-stands_for
returns-else-stands_for c =
    let parts = covers_split c.args.pattern.now c.args.host.now c.first_label.result.0.now
    c.first_label-2.result.0.now
    c.first_label.result.1 c.first_label-2.result.1 c.first_label.ensures.split
    c.first_label-2.ensures.split in
    grind (arith, parts)
