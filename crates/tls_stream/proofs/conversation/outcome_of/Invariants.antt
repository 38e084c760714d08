-- the pieces so far were followed
use Rattle.std.proofs.Common.{take}
use Rattle.tls_stream.specs.Conversations.{views}
use Rattle.tls_stream.proofs.ConversationLemmas.{AreFollowed}
use Rattle.tls_stream.proofs.conversation.outcome_of.Given as goal

abbrev pub invariant-loop-side : goal.invariant-loop-side
invariant-loop-side l = AreFollowed l.limit (views (take l.side-index l.pieces)) l.conversation
