use Rattle.std.proofs.Common.{◌≡◌, drop}
use Rattle.std.specs.List.{position_from}
use Rattle.arrivals.specs.Counts.{is_row_for}
use Rattle.arrivals.proofs.links.OtherLinks.row_of.Given as goal

abbrev pub invariant-loop-place : goal.invariant-loop-place
invariant-loop-place l =
    position_from (is_row_for l.link_type) l.place (drop l.place l.fn.self.rows)
    ≡ position_from (is_row_for l.link_type) 0 l.fn.self.rows
