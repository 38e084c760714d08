-- How long a run waits for a reader's end.
use Rattle.std.specs.Prelude.{ℕ}

-- At most 2^24 reads. A reader that hasn't reached its end by then has failed.
abbrev pub most_reads : ℕ
most_reads = 16777216
