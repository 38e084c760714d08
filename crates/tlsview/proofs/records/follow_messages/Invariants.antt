-- the rest of the messages leads where all of them do
use Rattle.std.proofs.Common.{◌≡◌, drop, map}
use Rattle.tls_states.specs.Symbols.{symbol_of}
use Rattle.tls_states.specs.Steps.{run}
use Rattle.tlsview.proofs.records.follow_messages.Given as goal

abbrev pub invariant-loop-i : goal.invariant-loop-i
invariant-loop-i l = run l.context (map (λ m. symbol_of m l.to_server) (drop l.i l.messages))
    ≡ run l.fn.context (map (λ m. symbol_of m l.fn.to_server) l.fn.messages)
