use Rattle.std.proofs.Common.{◌≡◌, length, map, take, min}
use Rattle.std.specs.List.{All, flat_map}
use Rattle.tls_ext.specs.Extension.{view}
use Rattle.tls_ext.specs.ExtensionText.{extension_text, FitsExtension}
use Rattle.tls_ext.proofs.writer.judge.extensions_len.Given as goal

abbrev pub invariant-loop-extension : goal.invariant-loop-extension
invariant-loop-extension l = record {
  each : All FitsExtension (map view (take l.extension-index l.extensions));
  total : l.total ≡ min
      (length (flat_map extension_text (map view (take l.extension-index l.extensions)))) 65536;
}
