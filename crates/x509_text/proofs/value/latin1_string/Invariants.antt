use Rattle.std.proofs.Common.{◌≡◌, encode_utf8, take}
use Rattle.std.specs.List.{flat_map}
use Rattle.std.specs.String.{string_bytes}
use Rattle.x509_text.proofs.value.latin1_string.Given as goal

abbrev pub invariant-loop-byte : goal.invariant-loop-byte
invariant-loop-byte l = string_bytes l.text ≡ flat_map encode_utf8 (take l.byte-index l.content)
