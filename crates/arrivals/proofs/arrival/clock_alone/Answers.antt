use Rattle.std.proofs.Common.{rules}
use Rattle.arrivals.proofs.ArrivalLemmas.{clock_there, unsigned}
use Rattle.arrivals.proofs.arrival.clock_alone.Goals as goal

pub returns-in-1-clause-clock : goal.returns-in-1-clause-clock
returns-in-1-clause-clock c =
    clock_there c.args.options.now c.from_be_bytes.result c.in-1.len_at_least c.in-1.len_below
    (search rules) (search rules) (search rules) (search rules) c.from_be_bytes.ensures

pub returns-in-1-clause-alone : goal.returns-in-1-clause-alone
returns-in-1-clause-alone c =
    unsigned c.args.options.now c.in-1.len_at_least c.in-1.len_below
    (search rules) (search rules) (search rules) (search rules)
