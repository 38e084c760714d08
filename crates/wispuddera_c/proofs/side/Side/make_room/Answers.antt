use Rattle.wispuddera_c.proofs.MovedLemmas.{moved_stream}
use Rattle.wispuddera_c.proofs.side.Side.make_room.Goals as goal

pub returns-clause-same : goal.returns-clause-same
returns-clause-same c = λ k.
    moved_stream k c.args.buffer.now c.copy_within.new.self c.copy_within-2.new.self
    c.args.self.now c.requires
    c.copy_within.ensures.after c.copy_within-2.ensures.after
