use Rattle.wispuddera_c.proofs.ConversationLemmas.{next_with}
use Rattle.wispuddera_c.proofs.conversation.wispuddera_conversation_next.Goals as goal

pub returns-in-Some-clause-read : goal.returns-in-Some-clause-read
returns-in-Some-clause-read c = λ read.
    next_with c.args.to_server c.args.buffer.now c.next_event-received.new.buffer
    c.args.conversation.now
    c.put.new.self
    c.follow.new.self c.next_event-received.new.self c.in-Some.received c.put.ensures
    c.next_event-received.ensures.within
    c.follow.ensures.sides c.follow.ensures.limit c.follow.ensures.tls13 c.follow.ensures.flow
    c.follow.ensures.session c.side-side.result c.known.result c.of.result c.side-side.ensures
    c.known.ensures
    c.of.ensures c.in-Some.ensures.some
