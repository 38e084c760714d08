-- the side's events so far were taken
use Rattle.std.proofs.Common.{◌≡◌, [], length, true}
use Rattle.tls_stream.specs.Conversations.{reader_of}
use Rattle.tls_stream.specs.SideReaders.{further_events}
use Rattle.tls_stream.proofs.ConversationLemmas.{IsOn, left_tls12}
use Rattle.tls_stream.proofs.conversation.Conversation.take_all.Given as goal

abbrev pub invariant-tls12 : goal.invariant-tls12
invariant-tls12 l = IsOn l.fn.self l.side l.self

abbrev pub decreases-tls12 : goal.decreases-tls12
decreases-tls12 l = left_tls12 l.self l.side

abbrev pub invariant-tls13 : goal.invariant-tls13
invariant-tls13 l = IsOn l.fn.self l.side l.self × (l.self.reader.is_tls13 ≡ true)

abbrev pub decreases-tls13 : goal.decreases-tls13
decreases-tls13 l = length (further_events (reader_of l.self l.side) [])
