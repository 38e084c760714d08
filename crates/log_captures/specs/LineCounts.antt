-- How many lines connections gave.
use Rattle.std.specs.Prelude.{ℕ, ◌+◌, ◌-◌, ◌^◌, min, max, nat_lt, if◌then◌else◌}
use Rattle.log_captures.specs.declared.line_counts.LineCounts.{LineCounts}

abbrev pub no_lines : LineCounts
no_lines = record { long = 0; longest = 0; left_out = 0 }

-- A connection with this number of lines is counted. It is long if it has more than 10,000.
abbrev pub with_lines : ℕ → LineCounts → LineCounts
with_lines lines c =
    if nat_lt 10000 lines
    then record c { long = min (c.long + 1) (2 ^ 64 - 1); longest = max c.longest lines }
    else c

-- A connection with this number of messages or certificates is counted. Those above a limit have no
-- lines.
abbrev pub with_connection : ℕ → ℕ → LineCounts → LineCounts
with_connection pieces most c = with_lines (min pieces most)
    (record c { left_out = min (c.left_out + (pieces - min pieces most)) (2 ^ 64 - 1) })
