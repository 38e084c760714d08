use Rattle.std.proofs.Common.{◌∙◌, ◌-◌, arith}
use Rattle.replay_window.specs.Replay.{Remembers}
use Rattle.replay_window.proofs.WindowLemmas.{asked}
use Rattle.replay_window.proofs.window.ReplayWindow.is_new.Goals as goal

pub returns-then-epoch-self : goal.returns-then-epoch-self
unfolding Remembers
returns-then-epoch-self c came is =
    grind arith ∙ is (record { epoch = c.args.epoch; sequence_number = c.args.sequence_number })

pub returns-then-sequence_number-self : goal.returns-then-sequence_number-self
unfolding Remembers
returns-then-sequence_number-self c came is =
    grind arith ∙ is (record { epoch = c.args.epoch; sequence_number = c.args.sequence_number })

pub returns-then-below-lt-WIDTH : goal.returns-then-below-lt-WIDTH
unfolding Remembers
returns-then-below-lt-WIDTH c came is =
    asked c.args.self.now.bits (c.args.self.now.highest - c.args.sequence_number) ∙ grind arith
    ∙ is (record { epoch = c.args.epoch; sequence_number = c.args.sequence_number })

pub returns-else-below-lt-WIDTH : goal.returns-else-below-lt-WIDTH
unfolding Remembers
returns-else-below-lt-WIDTH c came is =
    grind arith ∙ is (record { epoch = c.args.epoch; sequence_number = c.args.sequence_number })
