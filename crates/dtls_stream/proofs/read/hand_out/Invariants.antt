use Rattle.std.proofs.Common.{length}
use Rattle.dtls_stream.specs.Messages.{Received, Limits, Stands, view_events}
use Rattle.dtls_stream.proofs.EmittedLemmas.{IsOnTheWay}
use Rattle.dtls_stream.proofs.read.hand_out.Given as goal

abbrev pub invariant-whole : goal.invariant-whole
invariant-whole l = (a : Limits) (h : Received) → Stands a h l.initial.messages
    → IsOnTheWay a h (view_events l.initial.events.items) (view_events l.events.items) l.messages

abbrev pub decreases-whole : goal.decreases-whole
decreases-whole l = length l.messages.slots
