use Rattle.std.proofs.Common.{◌≡◌, map, take}
use Rattle.std.specs.Option.{unwrap_or}
use Rattle.log_fields.proofs.connection.tunnel_ids_cell.Given as goal

abbrev pub invariant-loop-tunnel : goal.invariant-loop-tunnel
invariant-loop-tunnel l = l.ids.items ≡ map (λ t. unwrap_or t.id 0) (take l.tunnel-index l.tunnels)
