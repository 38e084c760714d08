-- A section of a pcapng file, as far as it was read (draft-ietf-opsawg-pcapng).
use Rattle.std.specs.Prelude.{ℕ, ◌==◌, List, [], ◌∷◌, ◌++◌, map, slice_get, Option, Some, None, if◌then◌else◌, Result, Ok, Err}
use Rattle.layouts.specs.Bytes.{Bytes}
use Rattle.layouts.specs.Meaning.{Answer}
use Rattle.layouts.specs.Reading.{reading}
use Rattle.capture.specs.declared.order.Order.{Order}
use Rattle.capture.specs.declared.order.Order.TheVariants.{Big}
use Rattle.capture.specs.Pcapng.{
  Block,
  BlockPacket,
  Interface,
  SECTION,
  enhanced_packet,
  interface,
  nanoseconds_of,
  obsolete_packet,
  simple_packet,
  view_interface,
}
use Rattle.packets.specs.declared.reader.Packet as lent
use Rattle.packets.specs.declared.reader.CaptureError.{CaptureError}
use Rattle.packets.specs.declared.reader.CaptureError.TheVariants as error
use Rattle.packets.specs.declared.section.Section as stored

-- A packet: its capture time, in nanoseconds since 1970-01-01 00:00 UTC; its link type; its length
-- on the wire; the captured bytes.
pub record Packet : Type 0 where
  pub time : ℕ
  pub link_type : ℕ
  pub original_length : ℕ
  pub bytes : Bytes

abbrev pub view_packet : lent.Packet → Packet
view_packet p = record {
  time = p.time;
  link_type = p.link_type;
  original_length = p.original_length;
  bytes = p.bytes.now;
}

-- The byte order, the interfaces so far, and the time of the last packet that had one.
pub record Section : Type 0 where
  pub order : Order
  pub interfaces : List Interface
  pub time : ℕ

abbrev pub view_section : stored.Section → Section
view_section s = record {
  order = s.order;
  interfaces = map view_interface s.interfaces.items;
  time = s.time;
}

-- The state before the first section.
abbrev pub beginning : Section
beginning = record { order = Big; interfaces = []; time = 0 }

-- A block's packet, if it has one, and the section behind it; or an error.
abbrev pub BlockResult : Type 0
BlockResult = Result (Option Packet × Section) CaptureError

-- A section begins, without the interfaces of the previous one (section 4.1).
abbrev pub begun : Section → BlockResult
begun s = Ok (None, record s { interfaces = [] })

-- An interface, whose index is the count of those described before (section 4.2).
abbrev pub described : Section → Answer Interface → BlockResult
described s (Ok x) = Ok (None, record s { interfaces = s.interfaces ++ x.0 ∷ [] })
described s (Err e) = Err error.Broken

-- A packet of an interface at a time, which becomes the section's last time.
abbrev pub packet_at : Section → Interface → BlockPacket → Option ℕ → BlockResult
packet_at s i p None = Err error.Broken
packet_at s i p (Some time) = Ok (
  Some (record {
    time = time;
    link_type = i.link_type;
    original_length = p.original_length;
    bytes =
        p.bytes;
  }),
  record s { time = time },
)

-- A packet with a time in units of its interface, which has to be described.
abbrev pub timed_of : Section → BlockPacket → Option Interface → BlockResult
timed_of s p None = Err error.Broken
timed_of s p (Some i) = packet_at s i p (nanoseconds_of i p.units)

-- A packet with a time, and the index of its interface (section 4.3, and appendix A).
abbrev pub timed : Section → Answer BlockPacket → BlockResult
timed s (Ok x) = timed_of s x.0 (slice_get s.interfaces x.0.interface)
timed s (Err e) = Err error.Broken

-- A packet without a time: it has that of the packet before it.
abbrev pub untimed : Section → Interface → Answer BlockPacket → BlockResult
untimed s i (Ok x) = packet_at s i x.0 (Some s.time)
untimed s i (Err e) = Err error.Broken

-- A Simple Packet Block is of interface 0, and truncated at its snap length (section 4.4).
abbrev pub simple : Section → Order → Bytes → Option Interface → BlockResult
simple s order body None = Err error.Broken
simple s order body (Some i) = untimed s i (reading (simple_packet order i.snap_length) body)

-- A block's result, by its type. Blocks of other types are skipped (section 3.1).
abbrev pub result_by_kind : Section → Block → BlockResult
result_by_kind s b =
    if b.kind == SECTION then begun s else
    if b.kind == 1 then described s (reading (interface b.order) b.body) else
    if b.kind == 2 then timed s (reading (obsolete_packet b.order) b.body) else
    if b.kind == 3 then simple s b.order b.body (slice_get s.interfaces 0) else
    if b.kind == 6 then timed s (reading (enhanced_packet b.order) b.body) else Ok (None, s)

-- The section behind a block has the block's byte order.
abbrev pub in_order : Order → BlockResult → BlockResult
in_order order (Ok x) = Ok (x.0, record x.1 { order = order })
in_order order (Err e) = Err e

abbrev pub block_result : Section → Block → BlockResult
block_result s b = in_order b.order (result_by_kind s b)
