use Rattle.tls_stream.proofs.SideReaderLemmas.{ready_by}
use Rattle.tls_stream.proofs.side_reader.SideReader.settle.Goals as goal

pub returns-in_default-ready-clause-ready : goal.returns-in_default-ready-clause-ready
returns-in_default-ready-clause-ready c =
    ready_by c.args.self.now.standing c.ready.new.self c.in_default-ready.field-0 c.in-Active.is
    c.in_default-ready.ensures.next
