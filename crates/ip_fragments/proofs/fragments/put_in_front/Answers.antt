use Rattle.std.proofs.Common.{arith}
use Rattle.ip_fragments.proofs.TableLemmas.{put_first}
use Rattle.ip_fragments.proofs.fragments.put_in_front.Goals as goal

pub returns-clause-put : goal.returns-clause-put
returns-clause-put c = rw c.in_ok-put.ensures.entries
    (put_first c.args.table.now c.args.key c.args.waiting c.requires.missing
    (omega (arith, c.requires.unbounded)))
