-- How cipher suites are written.
use Rattle.std.specs.Prelude.{Bool, true, false}
use Rattle.log_formats.specs.declared.suites.OtherSuites.{OtherSuites}
use Rattle.log_formats.specs.declared.suites.OtherSuites.TheVariants.{Named, Numbered}
use Rattle.log_formats.specs.declared.suites.Suites.{Suites}

-- Such suites are written by number.
abbrev pub is_numbered : OtherSuites → Bool
is_numbered Named = false
is_numbered Numbered = true

-- Suites without a name in the list are written by number.
abbrev pub are_numbered : Suites → Bool
are_numbered s = is_numbered s.others
