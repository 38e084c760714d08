use Rattle.std.proofs.Common.{◌≡◌, ◌+◌, drop}
use Rattle.ip_fragments.specs.Runs.{count_behind}
use Rattle.ip_fragments.proofs.runs.count_behind.Given as goal

abbrev pub invariant-loop-place : goal.invariant-loop-place
invariant-loop-place l =
    l.place + count_behind l.end (drop l.place l.runs) ≡ count_behind l.end l.runs
