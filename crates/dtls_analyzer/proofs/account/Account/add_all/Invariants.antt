-- adding the rest of the events to the state so far gives the final state
use Rattle.std.proofs.Common.{◌≡◌, drop}
use Rattle.dtls_stream.specs.Messages.{view_events}
use Rattle.dtls_analyzer.specs.Datagrams.{observed_all, observed_of}
use Rattle.dtls_analyzer.proofs.account.Account.add_all.Given as goal

abbrev pub invariant-loop-event : goal.invariant-loop-event
invariant-loop-event g l =
    observed_all l.side (observed_of l.fn.self l.fn.progress) (view_events l.events)
    ≡ observed_all l.side (observed_of l.self l.progress) (view_events (drop l.event-index l.events))
