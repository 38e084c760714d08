use Rattle.wispuddera_c.proofs.MovedLemmas.{joined_stream}
use Rattle.wispuddera_c.proofs.side.Side.join.Goals as goal

pub returns-clause-joined : goal.returns-clause-joined
returns-clause-joined c = λ k.
    joined_stream k c.args.buffer.now c.copy_within.new.self c.args.self.now c.args.kind c.args.n
    c.requires.within
    c.requires.whole c.copy_within.ensures.after
