-- The Community ID of a connection, version 1, as Corelight defined it in 2018.
use Rattle.std.specs.Prelude.{ℕ, ◌==◌, Bool, ◌&&◌, ◌||◌, nat_lt, nat_le, if◌then◌else◌, List, [], ◌∷◌, ◌++◌, codes}
use Rattle.sha1.specs.Sha1.{sha1}
use Rattle.base64.specs.GeneralPurpose.{encode_of}
use Rattle.base64.specs.Engines.{standard}
use Rattle.connections.specs.FiveTuple.{address_number}
use Rattle.connections.specs.declared.five_tuple.End.{End}
use Rattle.connections.specs.declared.five_tuple.Protocol.{Protocol}
use Rattle.connection_ids.specs.FiveTuple.{address_bytes, port_bytes, protocol_number}

-- The smaller address comes first, or the smaller port if the addresses are equal.
abbrev pub is_first : End → End → Bool
is_first a b =
    nat_lt (address_number a.address) (address_number b.address)
    || (address_number a.address == address_number b.address && nat_le a.port b.port)

-- A seed of 0 in 2 bytes, both addresses, the protocol, a byte of 0, and both ports.
abbrev pub ordered_bytes : Protocol → End → End → List ℕ
ordered_bytes p first second =
    (0 ∷ 0 ∷ [])
    ++ address_bytes first.address
    ++ address_bytes second.address
    ++ (protocol_number p ∷ 0 ∷ [])
    ++ port_bytes first.port
    ++ port_bytes second.port

-- The hashed bytes, the same for both directions.
abbrev pub community_bytes : Protocol → End → End → List ℕ
community_bytes p a b = if is_first a b then ordered_bytes p a b else ordered_bytes p b a

-- The version, and the SHA-1 in base64.
abbrev pub community_id_of : Protocol → End → End → List ℕ
community_id_of p a b = codes "1:" ++ encode_of standard (sha1 (community_bytes p a b))
