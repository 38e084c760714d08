use Rattle.std.proofs.Common.{◌≡◌, flat_map, take}
use Rattle.std.specs.String.{string_bytes}
use Rattle.text_forms.specs.Escaped.{escaped_byte}
use Rattle.text_forms.proofs.escaped.escaped_text.Given as goal

abbrev pub invariant-loop-byte : goal.invariant-loop-byte
invariant-loop-byte l = string_bytes l.text ≡ flat_map escaped_byte (take l.byte-index l.bytes)
