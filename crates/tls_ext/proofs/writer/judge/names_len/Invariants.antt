use Rattle.std.proofs.Common.{◌≡◌, length, map, take, min}
use Rattle.std.specs.List.{flat_map}
use Rattle.tls_ext.specs.Extension.{view_server_name}
use Rattle.tls_ext.specs.ExtensionText.{server_name_text}
use Rattle.tls_ext.proofs.writer.judge.names_len.Given as goal

abbrev pub invariant-loop-name : goal.invariant-loop-name
invariant-loop-name l = l.total ≡ min (length (flat_map server_name_text
    (map view_server_name (take l.name-index l.names)))) 65536
