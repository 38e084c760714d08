use Rattle.std.proofs.Common.{◌≡◌, ◌++◌, true, drop, reverse}
use Rattle.x509_text.specs.Number.{negated_from}
use Rattle.x509_text.proofs.number.negated.Given as goal

abbrev pub invariant-loop-byte : goal.invariant-loop-byte
invariant-loop-byte l =
    l.negated.items ++ negated_from l.zeros (drop l.byte-index (reverse l.fn.number)) ≡ negated_from
    true (reverse l.fn.number)
