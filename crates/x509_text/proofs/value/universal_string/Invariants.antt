use Rattle.std.proofs.Common.{◌≡◌, ◌++◌, encode_utf8}
use Rattle.std.specs.List.{flat_map}
use Rattle.std.specs.String.{string_bytes}
use Rattle.layouts.specs.Items.{items_in}
use Rattle.x509_text.specs.Value.{universal_character}
use Rattle.x509_text.proofs.value.universal_string.Given as goal

abbrev pub invariant-loop-c : goal.invariant-loop-c
invariant-loop-c l =
    (goal.iterator-loop-c).can_next l.c-iterator ×
    (goal.iterator-loop-c).is_finite l.c-iterator ×
    (string_bytes l.text ++ flat_map encode_utf8
    (items_in universal_character l.c-iterator.bytes.now)
    ≡ flat_map encode_utf8 (items_in universal_character l.fn.content))
