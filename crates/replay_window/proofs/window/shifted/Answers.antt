use Rattle.std.proofs.Common.{◌*◌, ◌%◌, ◌^◌}
use Rattle.replay_window.proofs.ShiftLemmas.{clear_between, earlier_moved, lowest_set, one_alone}
use Rattle.replay_window.proofs.window.shifted.Goals as goal

pub returns-then-by-lt-WIDTH-clause-highest : goal.returns-then-by-lt-WIDTH-clause-highest
returns-then-by-lt-WIDTH-clause-highest c = lowest_set (c.args.bits * 2 ^ c.args.by % 2 ^ 64)

pub returns-then-by-lt-WIDTH-clause-between : goal.returns-then-by-lt-WIDTH-clause-between
returns-then-by-lt-WIDTH-clause-between c = clear_between c.args.bits c.args.by

pub returns-then-by-lt-WIDTH-clause-earlier : goal.returns-then-by-lt-WIDTH-clause-earlier
returns-then-by-lt-WIDTH-clause-earlier c = earlier_moved c.args.bits c.args.by

pub returns-else-by-lt-WIDTH-clause-between : goal.returns-else-by-lt-WIDTH-clause-between
returns-else-by-lt-WIDTH-clause-between c i above below within = one_alone i above
