-- the messages taken and those still to come don't change
use Rattle.std.proofs.Common.{[], length}
use Rattle.tls_stream.specs.Frames.{elements}
use Rattle.tls_stream.specs.Events.{events, fed}
use Rattle.tls_stream.specs.Taken.{TakesSame}
use Rattle.tls_stream.proofs.taken.take_messages.Given as goal

abbrev pub invariant-events : goal.invariant-events
invariant-events l =
    TakesSame (elements l.fn.taken.items) l.fn.direction (elements l.taken.items) l.direction

abbrev pub decreases-events : goal.decreases-events
decreases-events l = length (events (fed l.direction []))
