use Rattle.std.proofs.Common.{arith}
use Rattle.replay_window.specs.Replay.{Remembers}
use Rattle.replay_window.proofs.window.ReplayWindow.new.Goals as goal

pub returns : goal.returns
unfolding Remembers
returns c = λ n. grind arith
