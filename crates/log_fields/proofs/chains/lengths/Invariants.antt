use Rattle.std.proofs.Common.{◌≡◌, take}
use Rattle.log_fields.specs.Values.{lengths_of}
use Rattle.log_fields.proofs.chains.lengths.Given as goal

abbrev pub invariant-loop-one : goal.invariant-loop-one
invariant-loop-one l = l.lengths.items ≡ lengths_of (take l.one-index l.chain)
