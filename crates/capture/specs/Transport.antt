-- The content of IP datagrams: a TCP segment (RFC 9293), a UDP datagram (RFC 768).
use Rattle.std.specs.Prelude.{ℕ, ◌-◌, ◌*◌, ◌/◌, ◌==◌, nat_le}
use Rattle.layouts.specs.Bytes.{Bytes}
use Rattle.layouts.specs.Layout.{Layout, done, number, block, rest, test, choose, mapped, ◌>>=◌, ◌>>◌}
use Rattle.layouts.specs.declared.result.ErrorKind.TheVariants.{LengthValue}
use Rattle.capture.specs.declared.transport.Numbers.{Numbers as LentNumbers}
use Rattle.capture.specs.declared.transport.Control.{Control as LentControl}
use Rattle.capture.specs.declared.transport.TcpSegment.{TcpSegment}
use Rattle.capture.specs.declared.transport.UdpDatagram.{UdpDatagram}
use Rattle.capture.specs.declared.transport.Content.{Content as LentContent}
use Rattle.capture.specs.declared.transport.Content.TheVariants as content

-- The flags are CWR, ECE, URG, ACK, PSH, RST, SYN, FIN, from bit 7 to bit 0.
pub record Segment : Type 0 where
  pub source : ℕ
  pub destination : ℕ
  pub sequence : ℕ
  pub acknowledgment : ℕ
  pub offset : ℕ
  pub flags : ℕ
  pub window : ℕ
  pub checksum : ℕ
  pub urgent_pointer : ℕ
  pub options : Bytes
  pub payload : Bytes

abbrev pub view_segment : TcpSegment → Segment
view_segment s = record {
  source = s.source;
  destination = s.destination;
  sequence = s.sequence;
  acknowledgment = s.acknowledgment;
  offset = s.offset;
  flags = s.flags;
  window = s.window;
  checksum = s.checksum;
  urgent_pointer = s.urgent_pointer;
  options = s.options.now;
  payload = s.payload.now;
}

pub record Numbers : Type 0 where
  pub source : ℕ
  pub destination : ℕ
  pub sequence : ℕ
  pub acknowledgment : ℕ

abbrev pub view_numbers : LentNumbers → Numbers
view_numbers n = record {
  source = n.source;
  destination = n.destination;
  sequence = n.sequence;
  acknowledgment = n.acknowledgment;
}

-- Ports, sequence number, acknowledgment number (RFC 9293, section 3.1).
unfoldable pub numbers : Layout Numbers
numbers = do
  source ← number 2
  destination ← number 2
  sequence ← number 4
  acknowledgment ← number 4
  done (record {
    source = source;
    destination = destination;
    sequence = sequence;
    acknowledgment =
        acknowledgment;
  })

pub record Control : Type 0 where
  pub offset : ℕ
  pub flags : ℕ
  pub window : ℕ
  pub checksum : ℕ
  pub urgent_pointer : ℕ

abbrev pub view_control : LentControl → Control
view_control c =
    record {
      offset = c.offset;
      flags = c.flags;
      window = c.window;
      checksum =
          c.checksum;
      urgent_pointer = c.urgent_pointer;
    }

-- Data offset in the upper 4 bits, in words of 4 bytes; flags; window; checksum; urgent pointer.
unfoldable pub control_fields : Layout Control
control_fields = do
  offset ← number 1
  flags ← number 1
  window ← number 2
  checksum ← number 2
  urgent_pointer ← number 2
  test (nat_le 5 (offset / 16)) LengthValue
  done (record {
    offset = offset;
    flags = flags;
    window = window;
    checksum =
        checksum;
    urgent_pointer = urgent_pointer;
  })

-- The header, with options up to the data offset, and the data.
unfoldable pub tcp : Layout Segment
tcp = do
  n ← numbers
  c ← control_fields
  options ← block (c.offset / 16 * 4 - 20)
  payload ← rest
  done (record {
    source = n.source;
    destination = n.destination;
    sequence = n.sequence;
    acknowledgment = n.acknowledgment;
    offset = c.offset;
    flags = c.flags;
    window = c.window;
    checksum = c.checksum;
    urgent_pointer = c.urgent_pointer;
    options = options;
    payload = payload;
  })

pub record UserDatagram : Type 0 where
  pub source : ℕ
  pub destination : ℕ
  pub length : ℕ
  pub checksum : ℕ
  pub payload : Bytes

abbrev pub view_datagram : UdpDatagram → UserDatagram
view_datagram d = record {
  source = d.source;
  destination = d.destination;
  length = d.length;
  checksum = d.checksum;
  payload = d.payload.now;
}

-- Ports, the length of header and data, checksum, data (RFC 768).
unfoldable pub udp : Layout UserDatagram
udp = do
  source ← number 2
  destination ← number 2
  length ← number 2
  checksum ← number 2
  test (nat_le 8 length) LengthValue
  payload ← block (length - 8)
  done (record {
    source = source;
    destination = destination;
    length = length;
    checksum =
        checksum;
    payload = payload;
  })

pub data Content : Type 0 where
  Tcp : Segment → Content
  Udp : UserDatagram → Content
  -- a part of a fragmented datagram
  Fragment : Content
  -- another protocol: its number and its bytes
  Other : ℕ → Bytes → Content

abbrev pub view_content : LentContent → Content
view_content (content.Tcp s) = Tcp (view_segment s)
view_content (content.Udp d) = Udp (view_datagram d)
view_content content.Fragment = Fragment
view_content (content.Other n p) = Other n p.now

-- The content, by protocol number (IANA, Assigned Internet Protocol Numbers).
unfoldable pub transport : ℕ → Layout Content
transport protocol =
    choose (protocol == 6) (mapped Tcp tcp) (
    choose (protocol == 17) (mapped Udp udp) (
    mapped (Other protocol) rest))
