use Rattle.tls_stream.proofs.SideReaderLemmas.{kept_ready, taken_by}
use Rattle.tls_stream.proofs.side_reader.SideReader.take_front.Goals as goal

pub returns-then-taken-clause-taken : goal.returns-then-taken-clause-taken
returns-then-taken-clause-taken c =
    taken_by c.args.self.now.standing c.args.self.now.direction c.take_front-taken.new.self
    c.settle.new.self
    c.take_front-taken.result
    c.in-Active.is c.if-taken.true c.take_front-taken.ensures c.settle.ensures.same

pub returns-else-taken-clause-ready : goal.returns-else-taken-clause-ready
returns-else-taken-clause-ready c =
    kept_ready c.args.self.now.standing c.args.self.now.direction c.take_front-taken.new.self
    c.take_front-taken.result
    c.if-taken.false c.take_front-taken.ensures
