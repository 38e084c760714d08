use Rattle.tls_base.specs.CipherTable.{DifferBelow}
use Rattle.tls_base.proofs.cipher_table.first_fault.Given as goal

abbrev pub invariant-loop-k : goal.invariant-loop-k
invariant-loop-k l = DifferBelow l.suites l.k
