-- IP datagrams (RFC 791; RFC 8200).
use Rattle.std.specs.Prelude.{ℕ, zero, suc, ◌+◌, ◌-◌, ◌*◌, ◌/◌, ◌%◌, ◌==◌, ◌||◌, ◌&&◌, nat_le, Bool, true, if◌then◌else◌}
use Rattle.layouts.specs.Layout.{Layout, done, number, block, window, complete, test, choose, mapped, ◌>>=◌, ◌>>◌}
use Rattle.layouts.specs.declared.result.ErrorKind.TheVariants.{Verify, LengthValue}
use Rattle.capture.specs.Jumbo.{payload_length}
use Rattle.capture.specs.Words.{words, words4, is_right}
use Rattle.capture.specs.Transport.{Content, Fragment, view_content, transport}
use Rattle.capture.specs.declared.ip.Address.{Address as StoredAddress}
use Rattle.capture.specs.declared.ip.Address.TheVariants as address
use Rattle.capture.specs.declared.ip.IpDatagram.{IpDatagram as LentDatagram}
use Rattle.capture.specs.declared.ip.FieldsV4.{FieldsV4 as LentFieldsV4}
use Rattle.capture.specs.declared.ip.FrontV6.{FrontV6}
use Rattle.capture.specs.declared.ip.LengthsV4.{LengthsV4 as StoredLengthsV4}
use Rattle.capture.specs.declared.ip.Step.{Step}
use Rattle.capture.specs.declared.ip.Step.TheVariants.{Next, Part, Last}

-- An address as a big-endian number. An IPv6 address is two: the upper 8 bytes and the lower 8.
pub data Address : Type 0 where
  V4 : ℕ → Address
  V6 : ℕ → ℕ → Address

abbrev pub view_address : StoredAddress → Address
view_address (address.V4 n) = V4 n
view_address (address.V6 upper lower) = V6 upper lower

pub record Datagram : Type 0 where
  pub source : Address
  pub destination : Address
  -- whether the IPv4 header's checksum is correct; IPv6 has none
  pub is_header_right : Bool
  pub content : Content

abbrev pub view_datagram : LentDatagram → Datagram
view_datagram d = record {
  source = view_address d.source;
  destination = view_address d.destination;
  is_header_right = d.is_header_right;
  content = view_content d.content;
}

-- Whether more fragments follow (the bit MF) or others come before (the offset, 13 bits), so that
-- it isn't the whole datagram (RFC 791, section 3.1).
abbrev pub is_fragment_v4 : ℕ → Bool
is_fragment_v4 flags = nat_le 1 (flags % 16384)

-- The number of the next header; a length, in words of this many bytes; and the rest of the header,
-- the length counting from behind its first 8 bytes.
unfoldable pub skipped : ℕ → Layout ℕ
skipped word = do
  next ← number 1
  len ← number 1
  block (len * word + 6)
  done next

-- 51 is the Authentication Header, which has the number of the next header (RFC 4302, section 2).
unfoldable pub protected : ℕ → Layout Content
protected protocol = choose (protocol == 51) (skipped 4 >>= transport) (transport protocol)

-- A fragment isn't read: only the first has the protocol's header.
unfoldable pub content_v4 : ℕ → ℕ → Layout Content
content_v4 flags protocol = choose (is_fragment_v4 flags) (done Fragment) (protected protocol)

-- The lengths of a header and of its datagram, in bytes, the type of service, and the sum of the
-- words up to there.
pub record LengthsV4 : Type 0 where
  pub header : ℕ
  pub service : ℕ
  pub total : ℕ
  pub words : ℕ

abbrev pub view_lengths_v4 : StoredLengthsV4 → LengthsV4
view_lengths_v4 l =
    record { header = l.header; service = l.service; total = l.total; words = l.words }

-- Version, and the header's length in words of 4 bytes; type of service; total length (RFC 791,
-- section 3.1). A total length of 0 comes from a datagram captured before the sender's network card
-- segmented it.
unfoldable pub lengths_v4 : Layout LengthsV4
lengths_v4 = do
  first ← number 1
  test (first / 16 == 4) Verify
  test (nat_le 5 (first % 16)) LengthValue
  service ← number 1
  total ← number 2
  test (total == 0 || nat_le (first % 16 * 4) total) LengthValue
  done (record {
    header = first % 16 * 4;
    service = service;
    total = total;
    words = first * 256 + service + total;
  })

-- The further fields of a header, and the sum of their words.
pub record FieldsV4 : Type 0 where
  pub flags : ℕ
  pub protocol : ℕ
  pub source : ℕ
  pub destination : ℕ
  pub words : ℕ

abbrev pub view_fields_v4 : LentFieldsV4 → FieldsV4
view_fields_v4 f =
    record {
      flags = f.flags;
      protocol = f.protocol;
      source = f.source;
      destination =
          f.destination;
      words = f.words;
    }

-- Identification; flags and fragment offset; time to live; protocol; checksum; source; destination.
unfoldable pub fields_v4 : Layout FieldsV4
fields_v4 = do
  identification ← number 2
  flags ← number 2
  lifetime ← number 1
  protocol ← number 1
  checksum ← number 2
  source ← number 4
  destination ← number 4
  done (record {
    flags = flags;
    protocol = protocol;
    source = source;
    destination = destination;
    words = identification + flags + (lifetime * 256 + protocol) + checksum + words4 source + words4
        destination;
  })

-- The content, which ends at the total length, or with the captured bytes if that is 0.
unfoldable pub held_v4 : ℕ → ℕ → Layout Content → Layout Content
held_v4 header total content =
    choose (total == 0) (complete content) (window (total - header) (complete content))

-- The header with its options, and the content up to the total length. What follows is the link's
-- padding.
unfoldable pub ipv4 : Layout Datagram
ipv4 = do
  lengths ← lengths_v4
  fields ← fields_v4
  options ← block (lengths.header - 20)
  content ← held_v4 lengths.header lengths.total (content_v4 fields.flags fields.protocol)
  done (record {
    source = V4 fields.source;
    destination = V4 fields.destination;
    is_header_right = is_right (lengths.words + fields.words + words options);
    content = content;
  })

-- Hop-by-Hop Options, Routing, Destination Options, Mobility: 8 bytes, and as many times 8 as the
-- header's length (RFC 8200, section 4).
unfoldable pub is_extension : ℕ → Bool
is_extension next = (next == 0) || ((next == 43) || ((next == 60) || (next == 135)))

-- A Fragment header: next header, reserved, offset (13 bits) and the bit M, identification (RFC
-- 8200, section 4.5). A fragment that is the whole datagram is parsed (RFC 6946).
unfoldable pub fragment_header : Layout Step
fragment_header = do
  next ← number 1
  block 1
  offset ← number 2
  block 4
  done (if (offset / 8 == 0) && (offset % 2 == 0) then Next next else Part)

-- What follows a header of this number: 51 is the Authentication Header (RFC 4302, section 2.2), 44
-- a Fragment header. Any other is no extension header.
unfoldable pub step : ℕ → Layout Step
step next =
    choose (is_extension next) (mapped Next (skipped 8)) (
    choose (next == 51) (mapped Next (skipped 4)) (
    choose (next == 44) fragment_header (
    done Last)))

-- The content, after that step. f reads on at the next header.
abbrev pub step_then : (ℕ → Layout Content) → ℕ → Step → Layout Content
step_then f last (Next next) = f next
step_then f last Part = done Fragment
step_then f last Last = transport last

-- At most this many extension headers, one after the other, and the content.
unfoldable pub headers : ℕ → ℕ → Layout Content
headers zero next = transport next
headers (suc n) next = step next >>= step_then (headers n) next

unfoldable pub address_v6 : Layout Address
address_v6 = do
  upper ← number 8
  lower ← number 8
  done (V6 upper lower)

-- Version, traffic class and flow label; payload length; next header; hop limit (RFC 8200, section
-- 3). The low two of the traffic class's 8 bits are the ECN field (RFC 3168, section 5).
unfoldable pub front_v6 : Layout FrontV6
front_v6 = do
  first ← number 1
  test (first / 16 == 6) Verify
  flow ← number 3
  len ← number 2
  next ← number 1
  block 1
  done (record { len = len; next = next; ecn = flow / 1048576 % 4 })

-- The payload, by the payload length and next header, with at most 16 extension headers. A length
-- of 0 before TCP comes from a datagram captured before the sender's network card segmented it: it
-- ends with the captured bytes.
unfoldable pub held_v6 : ℕ → ℕ → Layout Content
held_v6 length_field next =
    choose ((length_field == 0) && (next == 6)) (complete (headers 16 next)) (
    payload_length length_field next >>= λ len. window len (complete (headers 16 next)))

-- The first 8 bytes of the header, source, destination, and the payload.
unfoldable pub ipv6 : Layout Datagram
ipv6 = do
  front ← front_v6
  source ← address_v6
  destination ← address_v6
  content ← held_v6 front.len front.next
  done (record {
    source = source;
    destination = destination;
    is_header_right =
        true;
    content = content;
  })
