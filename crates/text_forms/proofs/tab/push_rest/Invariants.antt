use Rattle.std.proofs.Common.{◌≡◌, ◌++◌, flat_map, take}
use Rattle.std.specs.String.{string_bytes}
use Rattle.text_forms.specs.Tab.{byte_text}
use Rattle.text_forms.proofs.tab.push_rest.Given as goal

abbrev pub invariant-loop-byte : goal.invariant-loop-byte
invariant-loop-byte l =
    string_bytes l.line ≡ string_bytes l.initial.line ++ flat_map (byte_text l.is_listed) (take l.byte-index l.rest)
