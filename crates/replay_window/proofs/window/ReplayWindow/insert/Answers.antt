use Rattle.std.proofs.Common.{arith}
use Rattle.replay_window.specs.Replay.{Remembers}
use Rattle.replay_window.proofs.WindowLemmas.{behind, earlier_epoch, higher, lower, next_epoch, old}
use Rattle.replay_window.proofs.window.ReplayWindow.insert.Goals as goal

pub returns-then-epoch-self-2 : goal.returns-then-epoch-self-2
unfolding Remembers
returns-then-epoch-self-2 c came is n =
    behind (record { epoch = c.args.epoch; sequence_number = c.args.sequence_number }) n _ _ _
    (next_epoch c.args.epoch c.args.sequence_number c.args.self.now.epoch c.args.self.now.highest
    c.args.self.now.bits n c.if-epoch-self-2.true) (is n)

pub returns-else-epoch-self-2 : goal.returns-else-epoch-self-2
unfolding Remembers
returns-else-epoch-self-2 c came is n =
    behind (record { epoch = c.args.epoch; sequence_number = c.args.sequence_number }) n _ _ _
    (earlier_epoch c.args.epoch c.args.sequence_number c.args.self.now.epoch c.args.self.now.highest
    c.args.self.now.bits n (omega arith)) (is n)

pub returns-then-sequence_number-self : goal.returns-then-sequence_number-self
unfolding Remembers
returns-then-sequence_number-self c came is n =
    behind (record { epoch = c.args.epoch; sequence_number = c.args.sequence_number }) n _ _ _
    (higher c.args.epoch c.args.sequence_number c.args.self.now.epoch c.args.self.now.highest
    c.args.self.now.bits c.shifted-self.result n c.if-epoch-self.false c.if-sequence_number-self.true
    c.shifted-self.ensures.highest c.shifted-self.ensures.between c.shifted-self.ensures.earlier) (is n)

pub returns-then-place-lt-WIDTH : goal.returns-then-place-lt-WIDTH
unfolding Remembers
returns-then-place-lt-WIDTH c came is n =
    behind (record { epoch = c.args.epoch; sequence_number = c.args.sequence_number }) n _ _ _
    (lower c.args.epoch c.args.sequence_number c.args.self.now.epoch c.args.self.now.highest
    c.args.self.now.bits n c.if-epoch-self.false c.if-sequence_number-self.false
    c.if-place-lt-WIDTH.true) (is n)

pub returns-else-place-lt-WIDTH : goal.returns-else-place-lt-WIDTH
unfolding Remembers
returns-else-place-lt-WIDTH c came is n =
    behind (record { epoch = c.args.epoch; sequence_number = c.args.sequence_number }) n _ _ _
    (old c.args.epoch c.args.sequence_number c.args.self.now.epoch c.args.self.now.highest
    c.args.self.now.bits n c.if-epoch-self.false c.if-sequence_number-self.false
    c.if-place-lt-WIDTH.false) (is n)
