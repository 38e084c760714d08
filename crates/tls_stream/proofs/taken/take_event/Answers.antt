use Rattle.tls_stream.specs.Frames.{elements}
use Rattle.tls_stream.proofs.TakenLemmas.{fewer_off, message_off, other_off}
use Rattle.tls_stream.proofs.taken.take_event.Goals as goal

pub returns-in-Some-clause-same : goal.returns-in-Some-clause-same
returns-in-Some-clause-same c =
    message_off c.args.taken.now.items c.push.new.self.items c.in_ok-message.message
    c.in-Some.message.now
    c.args.direction.now c.take_front.new.self c.take_front.result
    c.requires c.take_front.ensures c.in-Some.ensures c.in_ok-push.ensures.items
    c.in_ok-message.ensures.items

pub returns-in-Some-clause-fewer : goal.returns-in-Some-clause-fewer
returns-in-Some-clause-fewer c =
    fewer_off c.args.direction.now c.take_front.new.self c.take_front.result c.requires
    c.take_front.ensures

pub returns-clause-same : goal.returns-clause-same
returns-clause-same c =
    other_off (elements c.args.taken.now.items) c.args.direction.now c.take_front-2.new.self
    c.take_front-2.result
    c.requires c.take_front-2.ensures c.in_default.ensures

pub returns-clause-fewer : goal.returns-clause-fewer
returns-clause-fewer c =
    fewer_off c.args.direction.now c.take_front-2.new.self c.take_front-2.result c.requires
    c.take_front-2.ensures
