use Rattle.std.proofs.Common.{◌≡◌, drop}
use Rattle.x509_text.specs.Host.{is_number}
use Rattle.x509_text.proofs.host.is_number.Given as goal

abbrev pub invariant-loop-byte : goal.invariant-loop-byte
invariant-loop-byte l = is_number (drop l.byte-index l.label) ≡ is_number l.label
