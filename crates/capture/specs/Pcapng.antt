-- Pcapng files: blocks, in sections (draft-ietf-opsawg-pcapng).
use Rattle.std.specs.Prelude.{ℕ, ◌+◌, ◌-◌, ◌*◌, ◌/◌, ◌%◌, ◌^◌, ◌==◌, ◌||◌, ◌&&◌, not, min, nat_le, nat_lt}
use Rattle.std.specs.Prelude.{Option, Some, None, if◌then◌else◌, ℤ, pos, negsuc}
use Rattle.std.specs.Int.{w64, cast_signed}
use Rattle.std.specs.Option.{option_and_then}
use Rattle.layouts.specs.Bytes.{Bytes}
use Rattle.layouts.specs.Layout.{Layout, done, refuse, number, block, list, either, look, test, choose}
use Rattle.layouts.specs.Layout.{mapped, ◌>>=◌, ◌>>◌}
use Rattle.layouts.specs.declared.result.ErrorKind.TheVariants.{Tag, Verify, LengthValue, TooLarge}
use Rattle.capture.specs.Order.{number_by}
use Rattle.capture.specs.declared.order.Order.{Order}
use Rattle.capture.specs.declared.order.Order.TheVariants.{Big, Little}
use Rattle.capture.specs.declared.pcapng.Block.{Block as LentBlock}
use Rattle.capture.specs.declared.interface.Interface.{Interface as StoredInterface}
use Rattle.capture.specs.declared.block_packet.BlockPacket.{BlockPacket as LentPacket}

-- The type of a Section Header Block, which reads the same in either byte order (section 4.1).
abbrev pub SECTION : ℕ
SECTION = 0x0a0d0d0a

-- The byte order of a section's byte-order magic.
unfoldable pub order_of : ℕ → Layout Order
order_of magic =
    choose (magic == 0x1a2b3c4d) (done Big) (
    choose (magic == 0x4d3c2b1a) (done Little) (
    refuse Tag))

-- The byte-order magic comes behind the type and length of a Section Header Block.
unfoldable pub section_order : Layout Order
section_order = do
  block 8
  magic ← number 4
  order_of magic

-- The byte order of the next block, in a section of this order. A Section Header Block has its own.
unfoldable pub order_next : Order → Layout Order
order_next order = do
  kind ← look (number 4)
  choose (kind == SECTION) (look section_order) (done order)

-- A block, with the byte order of its numbers and of the following blocks.
pub record Block : Type 0 where
  pub order : Order
  pub kind : ℕ
  pub body : Bytes

abbrev pub view_block : LentBlock → Block
view_block b = record { order = b.order; kind = b.kind; body = b.body.now }

-- Block type, total length, body, total length again. The length counts all of these and is a
-- multiple of 4 (section 3.1). Blocks of more than 16 MiB are refused, as libpcap does.
unfoldable pub block_by : Order → Layout Block
block_by order = do
  kind ← number_by order 4
  total ← number_by order 4
  test (nat_le 12 total && (total % 4 == 0)) LengthValue
  test (nat_le total 16777216) TooLarge
  body ← block (total - 12)
  again ← number_by order 4
  test (again == total) LengthValue
  done (record { order = order; kind = kind; body = body })

unfoldable pub next_block : Order → Layout Block
next_block order = order_next order >>= block_by

-- A length rounded up to a multiple of 4.
abbrev pub padded : ℕ → ℕ
padded n = (n + 3) / 4 * 4

-- An option that neither ends the options nor has this code and this length: code, length, value,
-- padding (section 3.5).
unfoldable pub option_but : Order → ℕ → ℕ → Layout Unit
option_but order code size = do
  other ← number_by order 2
  len ← number_by order 2
  test (not ((other == 0) || ((other == code) && (len == size)))) Tag
  mapped (λ _. tt) (block (padded len))

-- The code and length of an option that has these.
unfoldable pub option_front : Order → ℕ → ℕ → Layout Unit
option_front order code size = do
  other ← number_by order 2
  len ← number_by order 2
  test ((other == code) && (len == size)) Tag

-- The options up to the first if_tsresol of 1 byte, and its value (section 4.2).
unfoldable pub resolution_option : Order → Layout ℕ
resolution_option order = do
  list (option_but order 9 1)
  option_front order 9 1
  number 1

-- The options up to the first if_tsoffset of 8 bytes, and its value: seconds, signed (section 4.2).
unfoldable pub offset_option : Order → Layout ℤ
offset_option order = do
  list (option_but order 14 8)
  option_front order 14 8
  mapped (cast_signed w64) (number_by order 8)

-- Units of time per second: a power of ten, or a power of two if the highest bit is set (section
-- 4.2, if_tsresol).
unfoldable pub units_of : ℕ → Layout ℕ
units_of resolution =
    choose (nat_le resolution 18) (done (10 ^ resolution)) (
    choose (nat_le 128 resolution && nat_le resolution 191) (done (2 ^ (resolution - 128))) (
    refuse Verify))

-- An interface: its link type, the snap length (0 for no limit), the units of time per second, and
-- the seconds added to each time.
pub record Interface : Type 0 where
  pub link_type : ℕ
  pub snap_length : ℕ
  pub units : ℕ
  pub offset : ℤ

abbrev pub view_interface : StoredInterface → Interface
view_interface i =
    record {
      link_type = i.link_type;
      snap_length = i.snap_length;
      units =
          i.units;
      offset = i.offset;
    }

-- The body of an Interface Description Block: link type, reserved, snap length, options. Without
-- if_tsresol a second has 10^6 units; without if_tsoffset nothing is added (section 4.2).
unfoldable pub interface : Order → Layout Interface
interface order = do
  link_type ← number_by order 2
  block 2
  snap_length ← number_by order 4
  resolution ← look (either (resolution_option order) (done 6))
  offset ← look (either (offset_option order) (done (pos 0)))
  units ← units_of resolution
  done (record { link_type = link_type; snap_length = snap_length; units = units; offset = offset })

-- Nanoseconds with this many seconds added; none if below 0.
abbrev pub moved_by : ℤ → ℕ → Option ℕ
moved_by (pos s) n = Some (n + s * 1000000000)
moved_by (negsuc s) n = if nat_le ((s + 1) * 1000000000) n then
    Some (n - (s + 1) * 1000000000) else None

abbrev pub below_2_64 : ℕ → Option ℕ
below_2_64 n = if nat_lt n (2 ^ 64) then Some n else None

-- A time in units as nanoseconds since 1970-01-01 00:00 UTC, rounded down; none if before that,
-- from 2^64 on, or if a second has no units.
abbrev pub nanoseconds_of : Interface → ℕ → Option ℕ
nanoseconds_of i units =
    if i.units == 0 then None else
    option_and_then below_2_64 (moved_by i.offset (units * 1000000000 / i.units))

-- A packet: the index of its interface in the section, counted from 0; the capture time, in that
-- interface's units since 1970-01-01 00:00 UTC; its length on the wire; the captured bytes.
pub record BlockPacket : Type 0 where
  pub interface : ℕ
  pub units : ℕ
  pub original_length : ℕ
  pub bytes : Bytes

abbrev pub view_packet : LentPacket → BlockPacket
view_packet p = record {
  interface = p.interface;
  units = p.units;
  original_length = p.original_length;
  bytes = p.bytes.now;
}

-- Upper and lower 4 bytes of the time, captured length, original length, bytes.
unfoldable pub packet_of : Order → ℕ → Layout BlockPacket
packet_of order interface = do
  upper ← number_by order 4
  lower ← number_by order 4
  captured ← number_by order 4
  original ← number_by order 4
  bytes ← block captured
  done (record {
    interface = interface;
    units = upper * 2 ^ 32 + lower;
    original_length = original;
    bytes = bytes;
  })

-- The body of an Enhanced Packet Block (section 4.3).
unfoldable pub enhanced_packet : Order → Layout BlockPacket
enhanced_packet order = number_by order 4 >>= packet_of order

-- The body of a Packet Block, which is obsolete: interface, drop count, and then what an Enhanced
-- Packet Block has (appendix A).
unfoldable pub obsolete_packet : Order → Layout BlockPacket
obsolete_packet order = do
  interface ← number_by order 2
  block 2
  packet_of order interface

-- How many bytes are captured of a packet of this length.
abbrev pub captured_of : ℕ → ℕ → ℕ
captured_of original snap_length = if snap_length == 0 then original else min original snap_length

-- The body of a Simple Packet Block, of interface 0 and without a time: original length, and the
-- bytes up to the interface's snap length (section 4.4).
unfoldable pub simple_packet : Order → ℕ → Layout BlockPacket
simple_packet order snap_length = do
  original ← number_by order 4
  bytes ← block (captured_of original snap_length)
  done (record { interface = 0; units = 0; original_length = original; bytes = bytes })
