-- The fields of a TCP segment.
use Rattle.std.specs.Prelude.{◌≡◌, ℕ, ◌+◌, ◌-◌, ◌/◌, ◌%◌, ◌^◌, ◌==◌, Bool, true, false, ◌&&◌, ◌||◌, not, nat_lt, if◌then◌else◌, Option, Some, None, [], length}
use Rattle.connections.specs.FiveTuple.{five_tuple_between}
use Rattle.connections.specs.declared.five_tuple.FiveTuple.{FiveTuple}
use Rattle.connections.specs.declared.five_tuple.Protocol.TheVariants.{Tcp}
use Rattle.connections.specs.declared.segment.Checksum.{Checksum}
use Rattle.connections.specs.declared.segment.Checksum.TheVariants.{Right, Partial, Wrong, Refused}
use Rattle.connections.specs.declared.segment.Header.{Header}
use Rattle.connections.specs.declared.segment.Segment.{Segment}

-- The flag of this weight is set (RFC 9293, section 3.1).
abbrev pub has_flag : ℕ → Segment → Bool
has_flag weight s = (s.flags / weight) % 2 == 1

-- FIN, SYN, RST and ACK.
abbrev pub ends : Segment → Bool
ends = has_flag 1

abbrev pub begins : Segment → Bool
begins = has_flag 2

abbrev pub breaks : Segment → Bool
breaks = has_flag 4

abbrev pub acknowledges : Segment → Bool
acknowledges = has_flag 16

-- A SYN without ACK, which asks for a connection.
abbrev pub asks : Segment → Bool
asks s = begins s && not (acknowledges s)

-- A SYN-ACK.
abbrev pub answers : Segment → Bool
answers s = begins s && acknowledges s

-- A stream may begin with it: it has a SYN, or more than one byte. A single byte may be a
-- keep-alive (RFC 9293, section 3.8.4).
abbrev pub begins_stream : Segment → Bool
begins_stream s = begins s || nat_lt 1 (length s.payload.now)

-- A checksum with which every receiver drops the packet.
abbrev pub is_refused : Checksum → Bool
is_refused Refused = true
is_refused Right = false
is_refused Partial = false
is_refused Wrong = false

-- A connection may begin with it: it is a SYN or a SYN-ACK without FIN, or has data that its
-- receiver may take.
abbrev pub begins_one : Segment → Bool
begins_one s = not (breaks s)
    && (not (begins s && ends s)
    && (not (is_refused s.checksum) && ((begins s || acknowledges s) && begins_stream s)))

-- The segment without its data.
abbrev pub header_of : Segment → Header
header_of s = record {
  time = s.time;
  network = s.network;
  source = s.source;
  destination = s.destination;
  sequence = s.sequence;
  acknowledgment = s.acknowledgment;
  flags = s.flags;
  window = s.window;
  urgent_pointer = s.urgent_pointer;
  options = s.options;
  checksum = s.checksum;
}

-- A SYN, a SYN-ACK, and the number of the first data byte, by the header alone.
abbrev pub has_flag_in : ℕ → Header → Bool
has_flag_in weight h = (h.flags / weight) % 2 == 1

abbrev pub begins_in : Header → Bool
begins_in = has_flag_in 2

abbrev pub ends_in : Header → Bool
ends_in = has_flag_in 1

abbrev pub answers_in : Header → Bool
answers_in h = begins_in h && has_flag_in 16 h

abbrev pub first_in : Header → ℕ
first_in h = if begins_in h then (h.sequence + 1) % 2 ^ 32 else h.sequence

-- The header without FIN, whose flag weighs 1.
abbrev pub without_fin : Header → Header
without_fin h = record h { flags = h.flags - h.flags % 2 }

-- A segment with the same header and no data.
abbrev pub IsWithoutData : Segment → Segment → Type 0
IsWithoutData s bare = (header_of bare ≡ header_of s) × (bare.payload.now ≡ [])

-- A segment's five-tuple.
abbrev pub five_tuple_of : Segment → FiveTuple
five_tuple_of s = five_tuple_between s.network Tcp s.source s.destination

-- The number of the first data byte. A SYN occupies one number before it.
abbrev pub first_of : Segment → ℕ
first_of s = if begins s then (s.sequence + 1) % 2 ^ 32 else s.sequence

-- The number behind the last data byte.
abbrev pub behind_of : Segment → ℕ
behind_of s = (first_of s + length s.payload.now) % 2 ^ 32

-- Whether it has data, and whether it occupies numbers behind its first: data or a FIN.
abbrev pub has_data : Segment → Bool
has_data s = not (length s.payload.now == 0)

abbrev pub takes_numbers : Segment → Bool
takes_numbers s = has_data s || ends s

-- With URG, the number of the byte before the one to which the pointer points; 0 is treated as 1
-- (RFC 6093, section 3).
abbrev pub urgent_of : Segment → Option ℕ
urgent_of s = if has_flag 32 s then Some ((first_of s + (s.urgent_pointer - 1)) % 2 ^ 32) else None

-- FIN and URG cleared, whose flags weigh 1 and 32.
abbrev pub without_flag : ℕ → ℕ → ℕ
without_flag weight flags = if (flags / weight) % 2 == 1 then flags - weight else flags

abbrev pub bytes_alone : Segment → Segment
bytes_alone s = record s { flags = without_flag 32 (without_flag 1 s.flags) }

-- The data of a SYN as a separate segment.
abbrev pub data_of_syn : Segment → Segment
data_of_syn s = record s { sequence = first_of s; flags = 16 }

-- The number behind all that it occupies, a FIN included.
abbrev pub end_with_fin : Segment → ℕ
end_with_fin s = if ends s then (behind_of s + 1) % 2 ^ 32 else behind_of s
