use Rattle.std.proofs.Common.{◌≡◌, drop}
use Rattle.std.specs.List.{list_all}
use Rattle.x509_text.specs.Host.{is_plain_byte}
use Rattle.x509_text.proofs.host.is_plain.Given as goal

abbrev pub invariant-loop-byte : goal.invariant-loop-byte
invariant-loop-byte l =
    list_all is_plain_byte (drop l.byte-index l.label) ≡ list_all is_plain_byte l.label
