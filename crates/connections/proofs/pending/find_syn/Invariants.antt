use Rattle.std.proofs.Common.{◌≡◌, drop}
use Rattle.connections.specs.Waiting.{syn_in}
use Rattle.connections.proofs.pending.find_syn.Given as goal

-- The remaining ones give the same result as all.
abbrev pub invariant-loop-kept : goal.invariant-loop-kept
invariant-loop-kept l =
    syn_in l.answers (drop l.kept-index l.list) ≡ syn_in l.answers l.list
