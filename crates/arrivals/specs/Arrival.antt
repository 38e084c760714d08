-- What a packet brings to a connection.
use Rattle.std.specs.Prelude.{ℕ, ◌+◌, ◌*◌, ◌^◌, ◌/◌, ◌%◌, ◌==◌, Bool, ◌&&◌, Option, Some, None, is_some, length, if◌then◌else◌, true, false}
use Rattle.std.specs.Net.Addr.{IsIpv4OfBits, IsIpv6OfBits}
use Rattle.std.specs.declared.net.ip_addr.IpAddr.{IpAddr}
use Rattle.std.specs.declared.net.ip_addr.IpAddr.TheVariants as ip
use Rattle.layouts.specs.Bytes.{Bytes}
use Rattle.capture.specs.Options.{maximum_segment_size, option_of, timestamp, window_scale}
use Rattle.capture.specs.declared.checksum.Checksum.{Checksum as Sum}
use Rattle.capture.specs.declared.checksum.Checksum.TheVariants as sum
use Rattle.capture.specs.Ip.{Address, V4, V6}
use Rattle.capture.specs.declared.transport.TcpSegment.{TcpSegment}
use Rattle.capture.specs.declared.transport.UdpDatagram.{UdpDatagram}
use Rattle.connection_parts.specs.Part.{falls_to}
use Rattle.connection_parts.specs.declared.part.Part.{Part}
use Rattle.connections.specs.Datagram.{five_tuple_of_datagram}
use Rattle.connections.specs.Segment.{five_tuple_of}
use Rattle.connections.specs.declared.datagram.Datagram.{Datagram}
use Rattle.connections.specs.declared.five_tuple.End.{End}
use Rattle.connections.specs.declared.five_tuple.FiveTuple.{FiveTuple}
use Rattle.connections.specs.declared.five_tuple.Protocol.{Protocol}
use Rattle.connections.specs.declared.segment.Checksum.{Checksum}
use Rattle.connections.specs.declared.segment.Checksum.TheVariants as checksum
use Rattle.connections.specs.declared.segment.Options.{Options}
use Rattle.connections.specs.declared.segment.Segment.{Segment}
use Rattle.arrivals.specs.declared.arrival.Arrival.{Arrival}
use Rattle.arrivals.specs.declared.arrival.Arrival.TheVariants as arrival
use Rattle.arrivals.specs.declared.arrival.Checksums.{Checksums}
use Rattle.arrivals.specs.declared.arrival.Checksums.TheVariants as checksums

-- The capture time, the sender and the five-tuple.
abbrev pub time_of : Arrival → ℕ
time_of (arrival.Segment s) = s.time
time_of (arrival.Datagram d) = d.time

abbrev pub source_of : Arrival → End
source_of (arrival.Segment s) = s.source
source_of (arrival.Datagram d) = d.source

abbrev pub five_tuple_in : Arrival → FiveTuple
five_tuple_in (arrival.Segment s) = five_tuple_of s
five_tuple_in (arrival.Datagram d) = five_tuple_of_datagram d

-- The address of the same version, whose bytes in network order are this number.
abbrev pub IsAddress : Address → IpAddr → Type 0
IsAddress (V4 n) (ip.V4 a) = IsIpv4OfBits a n
IsAddress (V4 n) (ip.V6 a) = ⊥
IsAddress (V6 upper lower) (ip.V4 a) = ⊥
IsAddress (V6 upper lower) (ip.V6 a) = IsIpv6OfBits a (upper * 2 ^ 64 + lower)

-- A segment is signed by MD5: the option's content is 16 bytes (RFC 2385, section 3). A host
-- without TCP-AO ignores the option of TCP-AO (RFC 9293, section 3.1).
abbrev pub is_signature : Option Bytes → Bool
is_signature None = false
is_signature (Some content) = length content == 16

abbrev pub is_signed : Bytes → Bool
is_signed b = is_signature (option_of 19 b)

-- The options of a segment. Window scale, maximum segment size and SACK-Permitted count only in a
-- SYN (RFC 7323, section 2.2; RFC 9293, section 3.7.1; RFC 2018, section 2).
abbrev pub options_in : Bool → Bytes → Options
options_in is_syn b = record {
  scale = if is_syn then window_scale b else None;
  clock = timestamp b;
  size = if is_syn then maximum_segment_size b else None;
  selects = is_syn && is_some (option_of 4 b);
  is_signed = is_signed b;
}

-- The flag SYN weighs 2 (RFC 9293, section 3.1).
abbrev pub is_syn : ℕ → Bool
is_syn flags = (flags / 2) % 2 == 1

-- A parsed TCP segment of a packet.
abbrev pub segment_in : ℕ → ℕ → End → End → TcpSegment → Checksum → Segment
segment_in time network source destination t c = record {
  time = time;
  network = network;
  source = source;
  destination = destination;
  sequence = t.sequence;
  acknowledgment = t.acknowledgment;
  flags = t.flags;
  window = t.window;
  urgent_pointer = t.urgent_pointer;
  options = options_in (is_syn t.flags) t.options.now;
  checksum = c;
  payload = t.payload;
}

-- A parsed UDP datagram of a packet.
abbrev pub datagram_in : ℕ → ℕ → End → End → UdpDatagram → Checksum → Datagram
datagram_in time network source destination u c = record {
  time = time;
  network = network;
  source = source;
  destination = destination;
  checksum = c;
  payload = u.payload;
}

-- How a packet's checksum counts. If all count, a partial one is as bad as a wrong one.
abbrev pub counted_as : Checksums → Sum → Checksum
counted_as checksums.Ignore c = checksum.Right
counted_as checksums.Check sum.Right = checksum.Right
counted_as checksums.Check sum.Partial = checksum.Refused
counted_as checksums.Check sum.Wrong = checksum.Refused
counted_as checksums.Auto sum.Right = checksum.Right
counted_as checksums.Auto sum.Partial = checksum.Partial
counted_as checksums.Auto sum.Wrong = checksum.Wrong

-- Whether the connection between these ends is logged: it falls to the part, or no part was chosen.
abbrev pub is_logged : Option Part → Protocol → End → End → Bool
is_logged None protocol one other = true
is_logged (Some part) protocol one other = falls_to protocol one other part
