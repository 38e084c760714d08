use Rattle.std.proofs.Common.{◌≡◌, drop}
use Rattle.tcp_acceptance.specs.Ending.{is_edge_of}
use Rattle.tcp_acceptance.specs.Room.{has_any}
use Rattle.tcp_acceptance.proofs.ending.is_edge_of.Given as goal

-- The remaining ones give the same result as all.
abbrev pub invariant-loop-kept : goal.invariant-loop-kept
invariant-loop-kept l =
    has_any (is_edge_of l.side l.number) (drop l.kept-index l.list)
    ≡ has_any (is_edge_of l.side l.number) l.list
