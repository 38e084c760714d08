use Rattle.std.proofs.Common.{◌≡◌, map, take}
use Rattle.std.specs.String.{string_bytes}
use Rattle.log_fields.specs.Names.{tunnel_text}
use Rattle.log_fields.proofs.connection.tunnels_cell.Given as goal

abbrev pub invariant-loop-tunnel : goal.invariant-loop-tunnel
invariant-loop-tunnel l =
    map string_bytes l.names.items ≡ map (λ t. tunnel_text t.kind) (take l.tunnel-index l.tunnels)
