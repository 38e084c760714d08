use Rattle.std.proofs.Common.{◌≡◌, ◌≤◌, ◌+◌, ◌^◌, ◌<◌, ◌++◌, length, map, take, vec_len, vec_capacity}
use Rattle.std.specs.List.{All, flat_map}
use Rattle.tls_ext.specs.Extension.{view_server_name}
use Rattle.tls_ext.specs.ExtensionText.{server_name_text}
use Rattle.tls_ext.proofs.writer.builder.append_names.Given as goal

abbrev pub invariant-loop-name_type : goal.invariant-loop-name_type
invariant-loop-name_type l = record {
  items : l.out.items ≡ l.fn.out.items ++ flat_map server_name_text
      (map view_server_name (take l.name_type-index l.names));
  range : All (λ n. n.name_type < 256 ^ 1) (map view_server_name (take l.name_type-index l.names));
  count : vec_len l.out ≡ vec_len l.fn.out + length (flat_map server_name_text
      (map view_server_name (take l.name_type-index l.names)));
  room : vec_capacity l.fn.out ≤ vec_capacity l.out;
}
