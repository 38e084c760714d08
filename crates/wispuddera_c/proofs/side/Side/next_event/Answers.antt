use Rattle.tls_stream.specs.Item.{Failed}
use Rattle.wispuddera_c.proofs.SideLemmas.{event_of_fault, some_received}
use Rattle.wispuddera_c.proofs.side.Side.next_event.Goals as goal

pub returns-in-Ok-true-clause-some : goal.returns-in-Ok-true-clause-some
returns-in-Ok-true-clause-some c =
    some_received c.args.side c.args.known c.args.buffer.now c.settle.new.buffer c.args.self.now
    c.settle.new.self
    c.take_first.new.self c.take_first.result c.requires.is_active c.settle.ensures.over
    c.settle.ensures.same
    c.take_first.ensures.over c.take_first.ensures.some

pub returns-in-Err-clause-some : goal.returns-in-Err-clause-some
returns-in-Err-clause-some c = (
  Failed c.in-Err.fault,
  event_of_fault c.args.known c.args.buffer.now c.settle.new.buffer c.args.self.now
      c.settle.new.self
      c.requires.is_active
      c.settle.ensures.over c.settle.ensures.same c.in-Err.fault c.in-Err.ensures.next,
  c.event_of_fault.ensures c.settle.new.buffer,
)
