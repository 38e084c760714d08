use Rattle.log_io.specs.Run.{HasWritten}
use Rattle.log_captures.proofs.inputs.log_joined.Given as goal

-- So far it has written unless it failed.
abbrev pub invariant-captures : goal.invariant-captures
invariant-captures g l = HasWritten l.fn.out.has_failed l.exit l.logger.printer.out.has_failed
