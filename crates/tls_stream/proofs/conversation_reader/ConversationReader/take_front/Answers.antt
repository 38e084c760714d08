use Rattle.std.proofs.Common.{rules}
use Rattle.tls_stream.proofs.ReaderLemmas.{client_silent, client_taken, server_silent, server_taken}
use Rattle.tls_stream.proofs.conversation_reader.ConversationReader.take_front.Goals as goal
use Rattle.tls_stream.proofs.conversation_reader.ConversationReader.take_front.Goals.{in-ToServer, in-FromServer}

pub returns-clause-taken : goal.returns-clause-taken
returns-clause-taken c same = elim c.match-side.branch [
  | in-ToServer w ↦
      client_taken c.args.self.now c.match-side.self c.switch_at.new.self c.args.side c.args.event
      w.take_front-is_taken.result w.take_front-is_taken.new.self w.in-ToServer.is w.self-is
      w.take_front-is_taken.ensures.taken
      (search rules) c.switch_at.ensures same
  | in-FromServer w ↦
      server_taken c.args.self.now c.match-side.self c.switch_at.new.self c.args.side c.args.event
      w.take_front-is_taken-in-FromServer.result w.take_front-is_taken-in-FromServer.new.self
      w.in-FromServer.is w.self-is
      w.take_front-is_taken-in-FromServer.ensures.taken (search rules) c.switch_at.ensures same
]

pub returns-then-not-is_taken-clause-taken : goal.returns-then-not-is_taken-clause-taken
returns-then-not-is_taken-clause-taken c same = elim c.match-side.branch [
  | in-ToServer w ↦
      client_silent c.args.self.now c.match-side.self c.args.side
      w.take_front-is_taken.result w.take_front-is_taken.new.self w.in-ToServer.is w.self-is
      w.take_front-is_taken.ensures.taken
      (search rules)
  | in-FromServer w ↦
      server_silent c.args.self.now c.match-side.self c.args.side
      w.take_front-is_taken-in-FromServer.result w.take_front-is_taken-in-FromServer.new.self
      w.in-FromServer.is w.self-is
      w.take_front-is_taken-in-FromServer.ensures.taken (search rules)
]
