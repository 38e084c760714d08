-- The identifier of a connection in a log. It has the form of Zeek's uid, but isn't random: it is
-- the same in each run.
use Rattle.std.specs.Prelude.{ℕ, zero, suc, ◌+◌, ◌/◌, ◌%◌, ◌^◌, nat_lt, if◌then◌else◌, List, [], ◌∷◌, ◌++◌, codes, take, drop}
use Rattle.std.specs.Int.{w64, w128, to_be_bytes, from_be_bytes}
use Rattle.sha2.specs.Sha256.{sha256}
use Rattle.connections.specs.declared.five_tuple.End.{End}
use Rattle.connections.specs.declared.five_tuple.Protocol.{Protocol}
use Rattle.connection_ids.specs.FiveTuple.{address_bytes, port_bytes, protocol_number}

-- A digit of base 62 in Zeek's order: `0` to `9`, `a` to `z`, `A` to `Z`.
abbrev pub digit : ℕ → ℕ
digit d = if nat_lt d 10 then 48 + d else if nat_lt d 36 then 87 + d else 29 + d

-- The k lowest digits of n in base 62, lowest first.
unfoldable pub base62 : ℕ → ℕ → List ℕ
base62 zero n = []
base62 (suc k) n = digit (n % 62) ∷ base62 k (n / 62)

-- Both addresses, the protocol, and both ports, the originator's first.
abbrev pub ends_bytes : Protocol → End → End → List ℕ
ends_bytes p originator responder =
    address_bytes originator.address
    ++ address_bytes responder.address
    ++ (protocol_number p ∷ [])
    ++ port_bytes originator.port
    ++ port_bytes responder.port

-- A key for these identifiers alone, so that no other use of the hash has the same input.
unfoldable pub uid_key : List ℕ
uid_key = codes "wispuddera uid 1"

-- The input of the hash: the key, the ends, and the microseconds from 1970-01-01 00:00 UTC to the
-- first packet, in 8 bytes.
abbrev pub uid_bytes : Protocol → End → End → ℕ → List ℕ
uid_bytes p originator responder microseconds =
    uid_key ++ ends_bytes p originator responder ++ to_be_bytes w64 microseconds

-- `C`, and the 17 lowest digits of the number in the first 16 bytes of the SHA-256.
abbrev pub uid_of : Protocol → End → End → ℕ → List ℕ
uid_of p originator responder microseconds =
    codes "C" ++ base62 17
    (from_be_bytes w128 (take 16 (sha256 (uid_bytes p originator responder microseconds))))

-- The number for a connection's Suricata events: 52 bits of the same SHA-256, which every JSON
-- reader has exactly.
abbrev pub flow_id_of : Protocol → End → End → ℕ → ℕ
flow_id_of p originator responder microseconds =
    from_be_bytes w64
    (take 8 (drop 16 (sha256 (uid_bytes p originator responder microseconds)))) / 2 ^ 12
