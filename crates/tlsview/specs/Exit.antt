-- The exit statuses of a run.
use Rattle.std.specs.Prelude.{ℕ}
use Rattle.tlsview.specs.declared.exit.ViewExit as rust
use Rattle.tlsview.specs.declared.exit.ViewExit.TheVariants.{Clean, Fault, BadLine, Failed}

abbrev pub status_of : rust.ViewExit → ℕ
status_of Clean = 0
status_of Fault = 1
status_of BadLine = 2
status_of Failed = 3
