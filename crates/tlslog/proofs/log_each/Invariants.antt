use Rattle.log_io.specs.Run.{HasWritten}
use Rattle.tlslog.proofs.log_each.Given as goal

-- So far it has written unless it failed.
abbrev pub invariant-paths : goal.invariant-paths
invariant-paths g l = HasWritten l.initial.out.has_failed l.exit l.out.has_failed
