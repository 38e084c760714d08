use Rattle.std.proofs.Common.{◌≡◌, drop}
use Rattle.tls_words.specs.Words.{run}
use Rattle.tls_flow.specs.Steps.{follow}
use Rattle.tls_flow.proofs.flow.Flow.run.Given as goal

-- The rest of the run ends where the whole run does.
abbrev pub invariant-loop-i : goal.invariant-loop-i
invariant-loop-i l = run follow l.self (drop l.i l.events) ≡ run follow l.fn.self l.fn.events
