-- the events are those of the beginning, including those still to come
use Rattle.std.proofs.Common.{length}
use Rattle.tls_stream.specs.Stream.{ReadsTheSame}
use Rattle.tls_stream.proofs.stream.Stream.ready.Given as goal

abbrev pub invariant-fragments : goal.invariant-fragments
invariant-fragments l = ReadsTheSame l.self l.fn.self

abbrev pub decreases-fragments : goal.decreases-fragments
decreases-fragments l = length l.self.held.unread
