-- The exit status of a run whose options are refused.
use Rattle.std.specs.Prelude.{ℕ}
use Rattle.log_lines.specs.declared.style.StyleError.{StyleError}
use Rattle.log_lines.specs.declared.style.StyleError.TheVariants.{OutOfMemory}
use Rattle.log_options.specs.Status as options
use Rattle.log_writer.specs.declared.configuration_error.ConfigurationError.{ConfigurationError}
use Rattle.log_writer.specs.declared.configuration_error.ConfigurationError.TheVariants.{Option, Style}

-- 3 if memory ran out; 2 if the arguments are wrong.
abbrev pub style_status : StyleError → ℕ
style_status OutOfMemory = 3
style_status e = 2

abbrev pub status_of : ConfigurationError → ℕ
status_of (Option e) = options.status_of e
status_of (Style e) = style_status e
