use Rattle.std.proofs.Common.{take}
use Rattle.dtls_stream.specs.Fragments.{view_fragments}
use Rattle.dtls_stream.specs.Messages.{AreReceived, Received, Limits, Stands, view_events}
use Rattle.dtls_stream.proofs.read.read_all.Given as goal

abbrev pub invariant-loop-fragment : goal.invariant-loop-fragment
invariant-loop-fragment l =
    (a : Limits) (h : Received) → Stands a h l.initial.messages →
    AreReceived a h (view_fragments (take l.fragment-index l.fragments))
    (view_events l.initial.events.items)
    (view_events l.events.items) l.messages
