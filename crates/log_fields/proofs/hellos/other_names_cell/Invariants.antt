use Rattle.std.proofs.Common.{◌≡◌, map, take}
use Rattle.std.specs.String.{string_bytes}
use Rattle.tls_ext.specs.Extension.{view_server_name}
use Rattle.log_fields.specs.Values.{typed_name_text}
use Rattle.log_fields.proofs.hellos.other_names_cell.Given as goal

abbrev pub invariant-loop-kind : goal.invariant-loop-kind
invariant-loop-kind l =
    map string_bytes l.all.items
    ≡ map typed_name_text (map view_server_name (take l.kind-index l.kind-items))
