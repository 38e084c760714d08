use Rattle.std.proofs.Common.{◌≡◌, map, take}
use Rattle.tunnels.specs.Tunnel.{listed, shared}
use Rattle.tunnels.proofs.tunnel.Tunnels.shared.Given as goal

abbrev pub invariant-loop-tunnel : goal.invariant-loop-tunnel
invariant-loop-tunnel l =
    (listed l.shared ≡ map shared (take l.tunnel-index l.tunnels))
    × (l.shared.count ≡ l.tunnel-index)
