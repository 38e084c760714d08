use Rattle.std.proofs.Common.{◌≡◌, drop}
use Rattle.std.specs.Prelude.{fold}
use Rattle.preambles.specs.TdsPayload.{taken_by, taken_from, with_byte}
use Rattle.preambles.proofs.tds_payload.TdsReader.read.Given as goal

abbrev pub invariant-loop-byte : goal.invariant-loop-byte
invariant-loop-byte l =
    fold with_byte (taken_by l.self l.tls.items) (drop l.byte-index l.bytes)
    ≡ taken_from l.initial.self.position l.bytes
