-- the bytes that are left have as many bits, and those before them are 0
use Rattle.std.proofs.Common.{◌≡◌, ◌+◌, length}
use Rattle.tls_summary.specs.Exchange.{bits_of}
use Rattle.tls_summary.proofs.exchange.bits_of.Given as goal

abbrev pub invariant-loop-i : goal.invariant-loop-i
invariant-loop-i l = (bits_of l.left ≡ bits_of l.number) × (length l.left + l.i ≡ length l.number)
