-- The exit status of a run for which the value of an option is refused.
use Rattle.std.specs.Prelude.{ℕ}
use Rattle.log_options.specs.declared.error.OptionError.{OptionError}
use Rattle.log_options.specs.declared.error.OptionError.TheVariants.{NoList, NoPart, NoSize, Reading, OutOfMemory}

-- 2 if the arguments are wrong; 3 if a file can't be read, or memory ran out.
abbrev pub status_of : OptionError → ℕ
status_of (NoList path) = 2
status_of (NoPart text) = 2
status_of (NoSize text) = 2
status_of (Reading path e) = 3
status_of OutOfMemory = 3
