-- The keys of a table's hashes, and the hash of a five-tuple under them.
use Rattle.std.specs.Prelude.{ℕ, ◌-◌, ◌/◌, ◌^◌, ◌==◌, if◌then◌else◌, bit_and, bit_xor}
use Rattle.std.specs.Hash.{u64}
use Rattle.std.specs.Hash.DefaultHasher.{finish, write}
use Rattle.std.specs.List.{fold}
use Rattle.std.specs.RandomState.{initial_hasher}
use Rattle.std.specs.Net.Addr.{ipv4_bits, ipv6_bits}
use Rattle.std.specs.declared.net.ip_addr.IpAddr.{IpAddr}
use Rattle.std.specs.declared.net.ip_addr.IpAddr.TheVariants.{V4, V6}
use Rattle.std.specs.declared.random_state.RandomState.{RandomState}
use Rattle.std.specs.Hash.FoldHasher.{folded_multiply}
use Rattle.connections.specs.FiveTuple.{address_number, both_numbers, ports_number}
use Rattle.connections.specs.declared.five_tuple.FiveTuple.{FiveTuple}
use Rattle.connections.specs.declared.hash_keys.HashKeys.{HashKeys}

-- The system's hash of a number under the caller's random keys. A table's keys are those of 0 and
-- of 1.
abbrev pub keyed_hash : RandomState → ℕ → ℕ
keyed_hash random n = finish (fold write (initial_hasher random) (u64 n))

abbrev pub hash_keys_of : RandomState → HashKeys
hash_keys_of random = record { first = keyed_hash random 0; second = keyed_hash random 1 }

-- A hash extended by an address.
abbrev pub after_address : HashKeys → ℕ → ℕ → ℕ
after_address keys hash a =
    folded_multiply (bit_xor hash (a / 2 ^ 64)) (bit_xor keys.second (bit_and a (2 ^ 64 - 1)))

-- The hash of two addresses, and of ports and protocol.
abbrev pub hash_of_both : HashKeys → ℕ → ℕ → ℕ → ℕ
hash_of_both keys a b ports =
    folded_multiply (bit_xor (after_address keys (after_address keys keys.first a) b) ports)
    keys.second

abbrev pub hash_of_ends : HashKeys → IpAddr → IpAddr → ℕ → ℕ
hash_of_ends keys (V4 a) (V4 b) ports =
    folded_multiply (bit_xor keys.first (both_numbers (ipv4_bits a) (ipv4_bits b)))
    (bit_xor keys.second ports)
hash_of_ends keys (V4 a) (V6 b) ports = hash_of_both keys (ipv4_bits a) (ipv6_bits b) ports
hash_of_ends keys (V6 a) b ports = hash_of_both keys (ipv6_bits a) (address_number b) ports

-- A hash extended by the number of the network, if there is one.
abbrev pub with_network : HashKeys → ℕ → ℕ → ℕ
with_network keys n hash = if n == 0 then hash else folded_multiply (bit_xor hash n) keys.second

unfoldable pub hash_of : HashKeys → FiveTuple → ℕ
hash_of keys e =
    with_network keys e.network
    (hash_of_ends keys e.lower.address e.upper.address
    (ports_number e.lower.port e.upper.port e.protocol))
