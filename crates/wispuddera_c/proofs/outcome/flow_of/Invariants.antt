use Rattle.std.proofs.Common.{◌≡◌, map, drop}
use Rattle.tls_flow.specs.Steps.{follow, silence}
use Rattle.tls_words.specs.Words.{run}
use Rattle.wispuddera_c.specs.Outcome.{event_of}
use Rattle.wispuddera_c.proofs.outcome.flow_of.Given as goal

abbrev pub invariant-loop-event : goal.invariant-loop-event
invariant-loop-event l =
    run follow l.flow (map event_of (drop l.event-index l.events))
    ≡ run follow silence (map event_of l.events)
