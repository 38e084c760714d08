use Rattle.std.specs.Prelude.{◌≡◌}
use Rattle.tlslog.proofs.printer.print_messages.Given as goal

-- No write failed so far.
abbrev pub invariant-messages : goal.invariant-messages
invariant-messages g l = l.out.has_failed ≡ l.initial.out.has_failed
