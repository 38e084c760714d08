use Rattle.std.proofs.Common.{◌≡◌, drop}
use Rattle.tcp_acceptance.specs.Known.{is_contradicted}
use Rattle.tcp_acceptance.specs.Tally.{with_counted}
use Rattle.tcp_acceptance.proofs.room.count_contradicted.Given as goal

abbrev pub invariant-loop-kept : goal.invariant-loop-kept
invariant-loop-kept l =
    with_counted (is_contradicted l.certain) (drop l.kept-index l.list) l.dropped
    ≡ with_counted (is_contradicted l.certain) l.list l.initial.dropped
