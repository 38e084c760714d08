use Rattle.std.proofs.Common.{◌≡◌, drop}
use Rattle.der.specs.ObjectIdentifier.{base128_from}
use Rattle.der.proofs.identifier.number_of.Given as goal

abbrev pub invariant-loop-byte : goal.invariant-loop-byte
invariant-loop-byte l = base128_from l.n (drop l.byte-index l.bytes) ≡ base128_from 0 l.bytes
