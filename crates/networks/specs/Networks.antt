-- Networks and their numbers.
use Rattle.std.specs.Prelude.{◌≡◌, ℕ, ◌+◌, Bool, List, [], ◌∷◌, map, take, if◌then◌else◌, is_some}
use Rattle.std.specs.Option.{unwrap_or}
use Rattle.std.specs.Map.{lookup}
use Rattle.lru.specs.LruCache.{promoted}
use Rattle.capture.specs.Vlan.{found_in}
use Rattle.tunnels.specs.Tunnel.{listed, shared}
use Rattle.tunnels.specs.declared.tunnel.Tunnels.{Tunnels}
use Rattle.networks.specs.declared.networks.Network.{Network}
use Rattle.networks.specs.contracts.networks.NetworkPartialEq.TheImpl as network_eq

-- A network by tunnels alone has no VLANs, whose tags may differ by direction. Of a tunnel its kind
-- and its endpoints count, in either order, and its identifier if both directions have it.
pub record IsOfTunnels (ts : Tunnels) (n : Network) : Type 0 where
  pub vlans : found_in n.vlans ≡ []
  pub tunnels : listed n.tunnels ≡ map shared (listed ts)

-- Two networks are the same if their lists of VLANs and of tunnels are.
abbrev pub IsSame : Network → Network → Type 0
IsSame a b = (found_in a.vlans ≡ found_in b.vlans) × (listed a.tunnels ≡ listed b.tunnels)

abbrev pub is_network : Network → Network → Bool
is_network = network_eq.ghosts.eq

abbrev pub Numbered : Type 0
Numbered = Network × ℕ

-- The remembered networks, most recently used first, each with its number; and the number that was
-- given last.
pub record Numbering : Type 0 where
  pub held : List Numbered
  pub last : ℕ

abbrev pub none_held : Numbering
none_held = record { held = []; last = 0 }

-- The number that a network has, or the next one.
abbrev pub number_of : Network → Numbering → ℕ
number_of n t = unwrap_or (lookup (is_network n) t.held) (t.last + 1)

-- The table after a packet of this network, which becomes the most recently used. At most 65,536
-- are remembered.
abbrev pub with_packet : Network → Numbering → Numbering
with_packet n t =
    if is_some (lookup (is_network n) t.held) then
    record t { held = promoted (is_network n) t.held }
    else record { held = (n, t.last + 1) ∷ take 65535 t.held; last = t.last + 1 }

-- Packets in order, each with the number of its network.
abbrev pub numbered : Numbering → List Network → List Numbered
numbered t [] = []
numbered t (n ∷ ns) = (n, number_of n t) ∷ numbered (with_packet n t) ns
