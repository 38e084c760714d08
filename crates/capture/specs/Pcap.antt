-- Pcap files (draft-ietf-opsawg-pcap).
use Rattle.std.specs.Prelude.{ℕ, ◌+◌, ◌*◌, ◌%◌, ◌==◌, nat_le}
use Rattle.layouts.specs.Bytes.{Bytes}
use Rattle.layouts.specs.Layout.{Layout, done, refuse, number, block, test, choose, ◌>>=◌, ◌>>◌}
use Rattle.layouts.specs.declared.result.ErrorKind.TheVariants.{Tag, Verify, TooLarge}
use Rattle.capture.specs.Order.{number_by}
use Rattle.capture.specs.declared.order.Order.{Order}
use Rattle.capture.specs.declared.order.Order.TheVariants.{Big, Little}
use Rattle.capture.specs.declared.pcap.Unit.{Unit as TimeUnit}
use Rattle.capture.specs.declared.pcap.Unit.TheVariants.{Microsecond, Nanosecond}
use Rattle.capture.specs.declared.pcap.Format.{Format as StoredFormat}
use Rattle.capture.specs.declared.pcap.PcapHeader.{PcapHeader as StoredHeader}
use Rattle.capture.specs.declared.pcap.Captured.{Captured as LentPacket}

-- How many nanoseconds a unit has.
abbrev pub nanoseconds : TimeUnit → ℕ
nanoseconds Microsecond = 1000
nanoseconds Nanosecond = 1

-- What the magic number stands for: the byte order, and the unit of the fraction of a second
-- (section 4).
pub record Format : Type 0 where
  pub order : Order
  pub unit : TimeUnit

abbrev pub view_format : StoredFormat → Format
view_format f = record { order = f.order; unit = f.unit }

abbrev pub is : Order → TimeUnit → Layout Format
is o u = done (record { order = o; unit = u })

-- 0xa1b2c3d4 or 0xa1b23c4d, in the byte order of the machine that wrote it.
unfoldable pub format_of : ℕ → Layout Format
format_of magic =
    choose (magic == 0xa1b2c3d4) (is Big Microsecond) (
    choose (magic == 0xd4c3b2a1) (is Little Microsecond) (
    choose (magic == 0xa1b23c4d) (is Big Nanosecond) (
    choose (magic == 0x4d3cb2a1) (is Little Nanosecond) (
    refuse Tag))))

-- A file header.
pub record Header : Type 0 where
  pub format : Format
  pub snap_length : ℕ
  pub link_type : ℕ

abbrev pub view_header : StoredHeader → Header
view_header h = record {
  format = view_format h.format;
  snap_length = h.snap_length;
  link_type = h.link_type;
}

-- Magic number, major version (2), minor version, two reserved fields, snap length; and the link
-- type in the lower 16 bits of the last field (section 4).
unfoldable pub header : Layout Header
header = do
  magic ← number 4
  format ← format_of magic
  major ← number_by format.order 2
  test (major == 2) Verify
  block 10
  snap_length ← number_by format.order 4
  link ← number_by format.order 4
  done (record { format = format; snap_length = snap_length; link_type = link % 65536 })

-- A packet: its capture time, in nanoseconds since 1970-01-01 00:00 UTC; its length on the wire, in
-- bytes; and the captured bytes.
pub record Packet : Type 0 where
  pub time : ℕ
  pub original_length : ℕ
  pub bytes : Bytes

abbrev pub view_packet : LentPacket → Packet
view_packet p = record { time = p.time; original_length = p.original_length; bytes = p.bytes.now }

-- Seconds, fraction of a second, captured length, original length, and the packet's bytes (section
-- 5). No file that libpcap writes has more than 262,144 bytes of a packet (its MAXIMUM_SNAPLEN).
unfoldable pub packet : Format → Layout Packet
packet format = do
  seconds ← number_by format.order 4
  fraction ← number_by format.order 4
  captured ← number_by format.order 4
  original ← number_by format.order 4
  test (nat_le captured 262144) TooLarge
  bytes ← block captured
  done (record {
    time = seconds * 1000000000 + fraction * nanoseconds format.unit;
    original_length = original;
    bytes = bytes;
  })
