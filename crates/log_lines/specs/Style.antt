-- Which lines a log has.
use Rattle.std.specs.Prelude.{Bool, true, false}
use Rattle.log_formats.specs.Suites as suites
use Rattle.log_lines.specs.declared.format.LineFormat.{LineFormat}
use Rattle.log_lines.specs.declared.format.LineFormat.TheVariants.{Json, Csv, Text, Zeek, Suricata, Ecs}
use Rattle.log_lines.specs.declared.style.LineKind.{LineKind}
use Rattle.log_lines.specs.declared.style.LineKind.TheVariants as kind
use Rattle.log_lines.specs.declared.style.Lines.{Lines}
use Rattle.log_lines.specs.declared.style.Lines.TheVariants.{Connections, Messages, Certificates}
use Rattle.log_lines.specs.declared.style.Style.{Style}

-- What gets a line.
abbrev pub kind_of : Lines → LineKind
kind_of (Connections places) = kind.Connections
kind_of (Messages places) = kind.Messages
kind_of (Certificates places) = kind.Certificates

-- The line of a connection has the certificates of its chains.
abbrev pub has_chains : LineFormat → Bool
has_chains Json = false
has_chains Csv = false
has_chains Text = false
has_chains Zeek = false
has_chains Suricata = true
has_chains Ecs = false

-- Cipher suites without a name in the list are written by number.
abbrev pub are_numbered : Style → Bool
are_numbered s = suites.are_numbered s.suites
