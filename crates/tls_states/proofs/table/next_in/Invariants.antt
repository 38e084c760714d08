use Rattle.std.proofs.Common.{◌≡◌, drop}
use Rattle.tls_states.specs.Table.{next_in}
use Rattle.tls_states.proofs.table.next_in.Given as goal

-- The remaining rows give the same result as all rows.
abbrev pub invariant-loop-row : goal.invariant-loop-row
invariant-loop-row l =
    next_in (drop l.row-index l.rows) l.kind l.direction ≡ next_in l.rows l.kind l.direction
