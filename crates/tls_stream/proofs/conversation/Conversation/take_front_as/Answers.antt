use Rattle.std.proofs.Common.{false, refl, true}
use Rattle.tls_stream.proofs.ConversationLemmas.{event_followed, none_followed}
use Rattle.tls_stream.proofs.conversation.Conversation.take_front_as.Goals as goal

pub returns-clause-taken : goal.returns-clause-taken
returns-clause-taken c same =
    event_followed c.args.self.now
    (record { reader = c.take_front.new.self; flow = c.update.new.self }) c.args.side c.args.event
    true c.if-not-take_front.ensures.taken refl c.update.ensures same

pub returns-then-not-take_front-clause-taken : goal.returns-then-not-take_front-clause-taken
returns-then-not-take_front-clause-taken c same =
    none_followed c.args.self.now (record c.args.self.now { reader = c.take_front.new.self })
    c.args.side c.args.event false c.if-not-take_front.ensures.taken refl refl same
