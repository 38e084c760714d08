use Rattle.std.proofs.Common.{false, true, refl}
use Rattle.tls_stream.proofs.ConversationLemmas.{on_done, on_more, still_tls13}
use Rattle.tls_stream.proofs.conversation.Conversation.take_all.Goals as goal

pub returns-then-not-take_front : goal.returns-then-not-take_front
returns-then-not-take_front c =
    on_done c.args.self.now c.tls12.self c.take_front.new.self c.args.side false
    c.tls12.invariant refl
    c.if-not-take_front.ensures.taken

pub tls12-preserved : goal.tls12-preserved
tls12-preserved c =
    on_more c.args.self.now c.tls12.self c.take_front.new.self c.args.side true
    c.tls12.invariant refl
    c.if-not-take_front.ensures.taken
    c.if-not-take_front.ensures.ready

pub tls13-preserved : goal.tls13-preserved
tls13-preserved c = (
  on_more c.args.self.now c.tls13.self c.take_front-in-tls13.new.self c.args.side true
      c.tls13.invariant.0 refl
      c.tls13-test.ensures.taken
      c.tls13-test.ensures.ready,
  still_tls13 c.tls13.self c.take_front-in-tls13.new.self c.args.side true c.tls13.invariant.1
      c.tls13-test.ensures.taken,
)

pub returns : goal.returns
returns c =
    on_done c.args.self.now c.tls13.self c.take_front-in-tls13.new.self c.args.side false
    c.tls13.invariant.0 refl
    c.tls13-test.ensures.taken
