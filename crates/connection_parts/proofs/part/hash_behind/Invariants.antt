use Rattle.std.proofs.Common.{◌≡◌, drop}
use Rattle.connection_parts.specs.Part.{fnv_from}
use Rattle.connection_parts.proofs.part.hash_behind.Given as goal

abbrev pub invariant-loop-byte : goal.invariant-loop-byte
invariant-loop-byte l =
    fnv_from l.hash (drop l.byte-index l.bytes) ≡ fnv_from l.fn.hash l.fn.bytes
