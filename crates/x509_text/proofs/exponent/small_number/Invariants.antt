use Rattle.std.proofs.Common.{◌≡◌, ◌<◌, drop}
use Rattle.layouts.specs.Bytes.{number_from, number_of}
use Rattle.x509_text.proofs.exponent.small_number.Given as goal

abbrev pub invariant-loop-byte : goal.invariant-loop-byte
invariant-loop-byte l =
    (number_from l.number (drop l.byte-index l.bytes) ≡ number_of l.bytes)
    × (l.number < 18446744073709551616)
