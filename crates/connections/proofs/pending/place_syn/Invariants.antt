use Rattle.std.proofs.Common.{◌≡◌, drop}
use Rattle.connections.specs.Waiting.{is_syn_of, place_from}
use Rattle.connections.proofs.pending.place_syn.Given as goal

abbrev pub invariant-loop-place : goal.invariant-loop-place
invariant-loop-place l =
    place_from (is_syn_of l.answers) l.place (drop l.place l.list)
    ≡ place_from (is_syn_of l.answers) 0 l.list
