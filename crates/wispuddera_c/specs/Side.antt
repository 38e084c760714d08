-- One side's stream, in a buffer of the caller's.
use Rattle.std.specs.Prelude.{◌≡◌, ℕ, ◌≤◌, ◌+◌, ◌-◌, Bool, true, false, None, [], length, take}
use Rattle.std.specs.List.{between}
use Rattle.tls_stream.specs.SideReaders.{IsFirst, ReadsAs, further_events}
use Rattle.tls_stream.specs.declared.side_reader.SideReader.{SideReader}
use Rattle.tls_stream.specs.declared.side_reader.Standing.{Standing}
use Rattle.tls_stream.specs.declared.side_reader.Standing.TheVariants.{Active, Over}
use Rattle.tls_stream.specs.Held.{Held}
use Rattle.tls_stream.specs.Item.{Event as StreamEvent}
use Rattle.tls_stream.specs.Stream.{Source, OfMessage, OfRecord}
use Rattle.tls_stream.specs.declared.stream.Stream.{Stream}
use Rattle.layouts.specs.Bytes.{Bytes}
use Rattle.tls_flow.specs.declared.symbol.Direction.{Direction}
use Rattle.wispuddera_c.specs.EventContent.{Shows}
use Rattle.wispuddera_c.specs.declared.content.ReadEvent.{ReadEvent}
use Rattle.wispuddera_c.specs.declared.side.ReadingState.{ReadingState}
use Rattle.wispuddera_c.specs.declared.side.Side.{Side}

-- The offsets lie within this many bytes, and the part comes before the unread bytes.
abbrev pub IsWithin : ℕ → Side → Type 0
IsWithin room s = (s.part ≤ s.part_end) × (s.part_end ≤ s.unread) × (s.unread ≤ s.end)
    × (s.end ≤ room)

-- How many bytes are in use.
abbrev pub count_held : Side → ℕ
count_held s = (s.part_end - s.part) + (s.end - s.unread)

abbrev pub held_in : Bytes → Side → Held
held_in b s = record { part = between s.part s.part_end b; unread = between s.unread s.end b }

-- A side before its first byte.
abbrev pub silent_side : Side
silent_side = record {
  part = 0;
  part_end = 0;
  unread = 0;
  end = 0;
  kind = 22;
  has_changed = false;
  is_over = false;
}

-- The stream of the buffer.
abbrev pub stream_of : ReadingState → Bytes → Side → Stream
stream_of k b s = record {
  limit = k.limit;
  is_tls13 = k.is_tls13;
  has_changed = s.has_changed;
  kind = s.kind;
  held = held_in b s;
}

-- After a fault the side has no more events.
abbrev pub standing_by : Bool → Standing
standing_by true = Over
standing_by false = Active

-- The side of the struct and its buffer.
abbrev pub side_reader_of : ReadingState → Bytes → Side → SideReader
side_reader_of k b s = record {
  direction = record { stream = stream_of k b s; fault = None };
  standing = standing_by s.is_over;
}

-- The bytes of an event.
abbrev pub bytes_of : Source → Bytes
bytes_of (OfMessage y) = y
bytes_of (OfRecord y) = y

-- The bytes are the front of the part; or of the unread bytes, if they have a record's header.
abbrev pub StandInFront : Held → Source → Type 0
StandInFront h (OfMessage y) = take (length y) h.part ≡ y
StandInFront h (OfRecord y) = (5 ≤ length y) × (take (length y) h.unread ≡ y)

-- The side returns an event first, whatever follows, and then what the changed struct returns.
abbrev pub IsNextEvent : Direction → ReadingState → Bytes → Side → Bytes → Side → ReadEvent → Type 0
IsNextEvent side k b s b' s' h =
    (v : StreamEvent) × IsFirst (side_reader_of k b s) v (side_reader_of k b' s')
    × Shows side b' h v

-- The side returns no event for now, and later the same as before.
pub record Waits (k : ReadingState) (b : Bytes) (s : Side) (b' : Bytes) (s' : Side) : Type 0 where
  pub nothing : further_events (side_reader_of k b s) [] ≡ []
  pub same : ReadsAs (side_reader_of k b s) (side_reader_of k b' s')
