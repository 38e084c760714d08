-- The statuses of a run.
use Rattle.std.specs.Prelude.{ℕ}
use Rattle.log_io.specs.declared.failure.Exit.{Exit}
use Rattle.log_io.specs.declared.failure.Exit.TheVariants.{Clean, Closed, Broken, Failed}

abbrev pub status_of : Exit → ℕ
status_of Clean = 0
status_of Closed = 0
status_of Broken = 1
status_of Failed = 3

-- The exit of a run over two inputs.
abbrev pub worse : Exit → Exit → Exit
worse Failed other = Failed
worse Closed Failed = Failed
worse Closed other = Closed
worse Broken Clean = Broken
worse Broken other = other
worse Clean other = other
