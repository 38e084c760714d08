use Rattle.std.proofs.Common.{◌≡◌, drop}
use Rattle.tcp_acceptance.specs.Doubtful.{is_before}
use Rattle.tcp_acceptance.specs.Room.{has_any}
use Rattle.tcp_acceptance.proofs.room.has_before.Given as goal

-- The remaining ones give the same result as all.
abbrev pub invariant-loop-kept : goal.invariant-loop-kept
invariant-loop-kept l =
    has_any (is_before l.segment) (drop l.kept-index l.list) ≡ has_any (is_before l.segment) l.list
