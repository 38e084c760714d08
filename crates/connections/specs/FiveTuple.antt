-- Five-tuples, with the number of the network.
use Rattle.std.specs.Hash.{HashWrites}
use Rattle.std.specs.Hash as fed
use Rattle.std.specs.Prelude.{ℕ, ◌++◌, ◌+◌, ◌*◌, ◌==◌, [], Bool, if◌then◌else◌}
use Rattle.std.specs.Net.Addr.{ipv4_bits, ipv6_bits}
use Rattle.std.specs.declared.net.ip_addr.IpAddr.{IpAddr}
use Rattle.std.specs.declared.net.ip_addr.IpAddr.TheVariants.{V4, V6}
use Rattle.connections.specs.declared.five_tuple.Protocol.TheVariants.{Tcp, Udp}
use Rattle.std.specs.Ordering.{partial_le}
use Rattle.connections.specs.declared.five_tuple.Protocol.{Protocol}
use Rattle.connections.specs.declared.five_tuple.End.{End}
use Rattle.connections.specs.declared.five_tuple.FiveTuple.{FiveTuple}
use Rattle.connections.specs.contracts.five_tuple.EndPartialEq.TheImpl as end_eq
use Rattle.connections.specs.contracts.five_tuple.EndPartialOrd.TheImpl as end_order
use Rattle.connections.specs.contracts.five_tuple.FiveTuplePartialEq.TheImpl as ends_eq

-- Two ends are equal.
abbrev pub is_end : End → End → Bool
is_end = end_eq.ghosts.eq

-- Two five-tuples are equal: networks, protocols and both ends.
abbrev pub is_five_tuple : FiveTuple → FiveTuple → Bool
is_five_tuple = ends_eq.ghosts.eq

-- The lower end comes first.
abbrev pub five_tuple_between : ℕ → Protocol → End → End → FiveTuple
five_tuple_between n p a b =
    if partial_le end_order.ghosts.partial_cmp a b then
    record { network = n; protocol = p; lower = a; upper = b }
    else record { network = n; protocol = p; lower = b; upper = a }

-- The input of the hash. For IPv4 it is two addresses, and two ports with the protocol, as numbers.
-- For IPv6 it is each address as a number, and the ports with the protocol. The number of the
-- network follows if there is one.
abbrev pub address_number : IpAddr → ℕ
address_number (V4 a) = ipv4_bits a
address_number (V6 a) = ipv6_bits a

abbrev pub both_numbers : ℕ → ℕ → ℕ
both_numbers upper lower = upper * 4294967296 + lower

abbrev pub block_number : ℕ → ℕ → ℕ
block_number upper lower = upper * 18446744073709551616 + lower

abbrev pub ends_fed : IpAddr → IpAddr → ℕ → HashWrites
ends_fed (V4 a) (V4 b) ports =
    fed.u128 (block_number (both_numbers (ipv4_bits a) (ipv4_bits b)) ports)
ends_fed (V4 a) (V6 b) ports = fed.u128 (ipv4_bits a) ++ (fed.u128 (ipv6_bits b) ++ fed.u64 ports)
ends_fed (V6 a) b ports = fed.u128 (ipv6_bits a) ++ (fed.u128 (address_number b) ++ fed.u64 ports)

abbrev pub ports_number : ℕ → ℕ → Protocol → ℕ
ports_number one other Tcp = (one * 65536 + other) * 2
ports_number one other Udp = (one * 65536 + other) * 2 + 1

abbrev pub network_fed : ℕ → HashWrites
network_fed n = if n == 0 then [] else fed.u64 n
