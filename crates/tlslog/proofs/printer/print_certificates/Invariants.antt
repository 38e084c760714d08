use Rattle.std.specs.Prelude.{◌≡◌}
use Rattle.tlslog.proofs.printer.print_certificates.Given as goal

-- No write failed so far.
abbrev pub invariant-certificates : goal.invariant-certificates
invariant-certificates g l = l.out.has_failed ≡ l.initial.out.has_failed
