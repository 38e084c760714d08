use Rattle.wispuddera_c.proofs.MovedLemmas.{message_off, record_off}
use Rattle.wispuddera_c.proofs.side.Side.take_off.Goals as goal

pub returns-in-Message-clause-taken : goal.returns-in-Message-clause-taken
returns-in-Message-clause-taken c = λ k.
    message_off k c.args.buffer.now c.args.self.now c.args.source c.in-Message.message
    c.in-Message.is

pub returns-in-Record-clause-taken : goal.returns-in-Record-clause-taken
returns-in-Record-clause-taken c = λ k.
    record_off k c.args.buffer.now c.args.self.now c.args.source c.in-Record.bytes c.in-Record.is
