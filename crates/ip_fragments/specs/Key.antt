-- The keys of datagrams in reassembly.
use Rattle.std.specs.Hash.{HashWrites}
use Rattle.std.specs.Hash as fed
use Rattle.std.specs.Prelude.{ℕ, ◌++◌, ◌+◌, ◌*◌, Bool}
use Rattle.capture.specs.declared.ip.Address.{Address}
use Rattle.capture.specs.declared.ip.Address.TheVariants.{V4, V6}
use Rattle.capture.specs.declared.fragment.IpFragment.{IpFragment}
use Rattle.ip_fragments.specs.declared.key.Key.{Key}
use Rattle.ip_fragments.specs.contracts.key.KeyPartialEq.TheImpl as key_eq

-- Whether two keys are equal.
abbrev pub are_keys : Key → Key → Bool
are_keys = key_eq.ghosts.eq

-- In IPv6 the protocol doesn't count.
abbrev pub protocol_in : Address → ℕ → ℕ
protocol_in (V4 n) protocol = protocol
protocol_in (V6 upper lower) protocol = 0

-- A datagram's key: the number of its network, in which it is unique; source, destination,
-- identification and protocol (RFC 791, section 3.2; RFC 8200, section 4.5). A host drops fragments
-- with a wrong header checksum, so they are apart from others: such datagrams are those of a card
-- that writes its checksums behind the capture.
abbrev pub key_of : ℕ → IpFragment → Key
key_of n f = record {
  network = n;
  source = f.source;
  destination = f.destination;
  identification = f.identification;
  protocol = protocol_in f.source f.protocol;
  is_header_right = f.is_header_right;
}

-- The input of the key's hash.
abbrev pub address_fed : Address → HashWrites
address_fed (V4 n) = fed.u32 n
address_fed (V6 upper lower) = fed.u64 upper ++ fed.u64 lower

abbrev pub number_of : Key → ℕ
number_of k = k.identification * 256 + k.protocol
