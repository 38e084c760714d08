use Rattle.std.proofs.Common.{◌≡◌, ◌≤◌, ◌+◌, ◌++◌, length, map, take, vec_len, vec_capacity}
use Rattle.std.specs.List.{All, flat_map}
use Rattle.tls_ext.specs.Extension.{view}
use Rattle.tls_ext.specs.ExtensionText.{extension_text, InRangeExtension}
use Rattle.tls_ext.proofs.writer.builder.append_extensions.Given as goal

abbrev pub invariant-loop-extension : goal.invariant-loop-extension
invariant-loop-extension l = record {
  items : l.out.items ≡ l.fn.out.items ++ flat_map extension_text
      (map view (take l.extension-index l.extensions));
  range : All InRangeExtension (map view (take l.extension-index l.extensions));
  count : vec_len l.out ≡ vec_len l.fn.out + length (flat_map extension_text
      (map view (take l.extension-index l.extensions)));
  room : vec_capacity l.fn.out ≤ vec_capacity l.out;
}
