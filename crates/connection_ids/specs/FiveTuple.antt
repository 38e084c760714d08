-- The input of a connection's identifiers: bytes of its packets.
use Rattle.std.specs.Prelude.{ℕ, List}
use Rattle.std.specs.Int.{w16, to_be_bytes}
use Rattle.std.specs.Net.Addr.{ipv4_octets, ipv6_octets}
use Rattle.std.specs.declared.net.ip_addr.IpAddr.{IpAddr}
use Rattle.std.specs.declared.net.ip_addr.IpAddr.TheVariants.{V4, V6}
use Rattle.connections.specs.declared.five_tuple.Protocol.{Protocol}
use Rattle.connections.specs.declared.five_tuple.Protocol.TheVariants.{Tcp, Udp}

-- The 4 bytes of an IPv4 address, or the 16 of an IPv6 address.
abbrev pub address_bytes : IpAddr → List ℕ
address_bytes (V4 a) = ipv4_octets a
address_bytes (V6 a) = ipv6_octets a

-- The 2 bytes of a port, big-endian.
abbrev pub port_bytes : ℕ → List ℕ
port_bytes port = to_be_bytes w16 port

-- The protocol's number in the IP header (IANA's registry of protocol numbers).
abbrev pub protocol_number : Protocol → ℕ
protocol_number Tcp = 6
protocol_number Udp = 17
