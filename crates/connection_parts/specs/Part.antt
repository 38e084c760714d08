-- The part of a connection.
use Rattle.std.specs.Prelude.{ℕ, ◌+◌, ◌-◌, ◌*◌, ◌/◌, ◌%◌, ◌^◌, ◌==◌, ◌||◌, nat_lt, Bool, Option, Some, None, [], ◌∷◌, ◌++◌, bit_xor, if◌then◌else◌}
use Rattle.std.specs.Net.Addr.{ipv4_octets, ipv6_octets}
use Rattle.std.specs.declared.net.ip_addr.IpAddr.{IpAddr}
use Rattle.std.specs.declared.net.ip_addr.IpAddr.TheVariants.{V4, V6}
use Rattle.layouts.specs.Bytes.{Bytes, bytes_of}
use Rattle.connections.specs.declared.five_tuple.Protocol.{Protocol}
use Rattle.connections.specs.declared.five_tuple.Protocol.TheVariants.{Tcp, Udp}
use Rattle.connections.specs.declared.five_tuple.End.{End}
use Rattle.connection_parts.specs.declared.part.Part.{Part}

-- The 64-bit FNV-1a hash (draft-eastlake-fnv, section 2), extended by bytes.
abbrev pub fnv_from : ℕ → Bytes → ℕ
fnv_from h [] = h
fnv_from h (b ∷ bs) = fnv_from (bit_xor h b * 0x100000001b3 % 2 ^ 64) bs

abbrev pub fnv_1a : Bytes → ℕ
fnv_1a = fnv_from 0xcbf29ce484222325

abbrev pub address_bytes : IpAddr → Bytes
address_bytes (V4 a) = ipv4_octets a
address_bytes (V6 a) = ipv6_octets a

-- An end's address and port, big-endian.
abbrev pub end_bytes : End → Bytes
end_bytes e = address_bytes e.address ++ bytes_of 2 e.port

abbrev pub end_hash : End → ℕ
end_hash e = fnv_1a (end_bytes e)

-- The hash of UDP is one more than that of TCP.
abbrev pub protocol_number : Protocol → ℕ
protocol_number Tcp = 0
protocol_number Udp = 1

-- A sum, so the order of the ends doesn't matter.
abbrev pub ends_hash : Protocol → End → End → ℕ
ends_hash p a b = ((end_hash a + end_hash b) % 2 ^ 64 + protocol_number p) % 2 ^ 64

-- The odd number nearest to 2^64 divided by the golden ratio spreads low bits over all others
-- (Knuth, The Art of Computer Programming, section 6.4).
abbrev pub spread : ℕ → ℕ
spread h = h * 0x9e3779b97f4a7c15 % 2 ^ 64

-- The upper half of the spread hash, modulo the number of parts.
abbrev pub falls_to : Protocol → End → End → Part → Bool
falls_to p a b part = spread (ends_hash p a b) / 2 ^ 32 % (part.last + 1) == part.number

-- Parts are numbered from 1 to their count.
abbrev pub part_of : ℕ → ℕ → Option Part
part_of number count =
    if number == 0 || nat_lt count number then
    None else Some (record { number = number - 1; last = count - 1 })
