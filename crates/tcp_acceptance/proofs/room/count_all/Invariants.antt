use Rattle.std.proofs.Common.{◌≡◌, drop}
use Rattle.tcp_acceptance.specs.Ending.{is_any}
use Rattle.tcp_acceptance.specs.Tally.{with_counted}
use Rattle.tcp_acceptance.proofs.room.count_all.Given as goal

abbrev pub invariant-loop-kept : goal.invariant-loop-kept
invariant-loop-kept l =
    with_counted is_any (drop l.kept-index l.list) l.dropped
    ≡ with_counted is_any l.list l.initial.dropped
