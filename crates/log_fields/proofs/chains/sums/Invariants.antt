use Rattle.std.proofs.Common.{◌≡◌, take}
use Rattle.log_fields.specs.Values.{sums_of}
use Rattle.log_fields.proofs.chains.sums.Given as goal

abbrev pub invariant-loop-one : goal.invariant-loop-one
invariant-loop-one l = l.sums.items ≡ sums_of (take l.one-index l.chain)
