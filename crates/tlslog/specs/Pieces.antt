-- Which pieces of connections are kept until they are printed.
use Rattle.std.specs.Prelude.{if◌then◌else◌, Option, Some, None}
use Rattle.log_connections.specs.declared.analysis.PieceKind.{PieceKind}
use Rattle.log_connections.specs.declared.analysis.PieceKind.TheVariants as kind
use Rattle.log_lines.specs.Style.{are_numbered, has_chains}
use Rattle.log_lines.specs.declared.style.Lines.{Lines}
use Rattle.log_lines.specs.declared.style.Lines.TheVariants as lines
use Rattle.log_lines.specs.declared.style.Style.{Style}

-- Lines of messages and certificates need those, and a connection's line its chains if the format
-- has them.
abbrev pub kind_for : Lines → Style → Option PieceKind
kind_for (lines.Connections places) s = if has_chains s.format then Some kind.Chains else None
kind_for (lines.Messages places) s =
    Some (if are_numbered s then kind.NumberedMessages else kind.Messages)
kind_for (lines.Certificates places) s = Some kind.Certificates

-- Which pieces are kept until they are printed.
abbrev pub piece_kind : Style → Option PieceKind
piece_kind s = kind_for s.lines s
