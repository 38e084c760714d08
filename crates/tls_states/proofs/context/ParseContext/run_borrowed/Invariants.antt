use Rattle.std.proofs.Common.{◌≡◌, drop}
use Rattle.tls_states.specs.Symbols.{borrowed_word}
use Rattle.tls_states.specs.Steps.{run}
use Rattle.tls_states.proofs.context.ParseContext.run_borrowed.Given as goal

-- The rest of the run ends where the whole run does.
abbrev pub invariant-loop-i : goal.invariant-loop-i
invariant-loop-i l =
    run l.self (borrowed_word (drop l.i l.messages)) ≡ run l.fn.self (borrowed_word l.fn.messages)
