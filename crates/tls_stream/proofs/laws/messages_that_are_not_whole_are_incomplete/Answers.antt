use Rattle.tls_stream.proofs.MessageLemmas.{message_waits}
use Rattle.tls_stream.proofs.laws.messages_that_are_not_whole_are_incomplete.Goals as goal

pub returns : goal.returns
returns c limit b not = message_waits limit b not
