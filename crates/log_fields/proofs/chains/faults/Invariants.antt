use Rattle.std.proofs.Common.{◌≡◌, ◌+◌, ◌++◌, length, map}
use Rattle.std.specs.String.{string_bytes}
use Rattle.log_fields.specs.Values.{faults_from}
use Rattle.log_fields.proofs.chains.faults.Given as goal

abbrev pub invariant-loop-rest : goal.invariant-loop-rest
invariant-loop-rest l = record {
  faults : map string_bytes l.all.items ++ faults_from l.place l.rest ≡ faults_from 0 l.chain;
  count : l.place + length l.rest ≡ length l.chain;
}

abbrev pub decreases-loop-rest : goal.decreases-loop-rest
decreases-loop-rest l = length l.rest
