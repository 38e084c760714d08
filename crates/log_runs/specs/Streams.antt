-- Which bytes of a sender are in its stream, whatever its segments.
use Rattle.std.specs.Prelude.{◌≡◌, ℕ, ◌+◌, ◌%◌, ◌^◌, ◌<◌, ◌≤◌, false, List, [], ◌∷◌, ◌++◌, take}
use Rattle.segments.specs.Cells.{Bytes, Held, IsTooMuch, run, wanted}
use Rattle.segments.specs.Law.{IsPart}
use Rattle.connections.specs.Connection.{begun_for}
use Rattle.connections.specs.Segment.{breaks, first_of}
use Rattle.connections.specs.Stream.{HasTaken, handing_on, passing_urgent}
use Rattle.connections.specs.declared.host.Host.{Host}
use Rattle.connections.specs.declared.segment.Segment.{Segment}
use Rattle.connections.specs.declared.stream.Reading.{Reading}
use Rattle.connections.specs.declared.stream.Reading.TheVariants.{Open, Over, Unbegun}
use Rattle.connections.specs.declared.stream.Stream.{Stream}

-- A segment without RST has the sender's bytes at this position. It is near the first missing byte,
-- and doesn't end too far behind it.
pub record FitsHeld (bytes : Bytes) (place : ℕ) (s : Segment) (h : Held) : Type 0 where
  pub part : IsPart bytes place s.payload.now
  pub number : (h.first + place) % 2 ^ 32 ≡ first_of s
  pub near : (wanted h ≤ place + 2 ^ 31) × (place < wanted h + 2 ^ 31)
  pub within : ¬ IsTooMuch (first_of s) s.payload.now h
  pub goes_on : breaks s ≡ false

abbrev pub Fits : Bytes → ℕ → Segment → Reading → Type 0
Fits bytes place s Unbegun = ⊥
Fits bytes place s (Open h) = FitsHeld bytes place s h
Fits bytes place s Over = ⊥

-- What happens to a stream that is read, and which bytes of its sender it got: segments are added,
-- each at its position; bytes are read, and an urgent one is skipped. Read bytes may be freed, by
-- what the segment's receiver y acknowledged.
pub data Gets (bytes : Bytes) (t : Stream) : List (ℕ × Bytes) → Stream → Type 0 where
  nothing : Gets bytes t [] t
  adds :
      (got : List (ℕ × Bytes)) (u v : Stream) (y : Host) (s : Segment) (place : ℕ)
      → Gets bytes t got u → Fits bytes place s (begun_for y s u).reading
      → HasTaken s (begun_for y s u) v → Gets bytes t ((place, s.payload.now) ∷ got) v
  reads :
      (got : List (ℕ × Bytes)) (u : Stream) (n : ℕ) → Gets bytes t got u
      → Gets bytes t got (handing_on n u)
  skips :
      (got : List (ℕ × Bytes)) (u : Stream) → Gets bytes t got u
      → Gets bytes t got (passing_urgent u)

-- The bytes that are in order, with those that were freed; and how many of them were read.
abbrev pub in_order : Bytes → Reading → Bytes
in_order bytes Unbegun = []
in_order bytes (Open h) = take h.taken bytes ++ run h.cells
in_order bytes Over = []

abbrev pub read_of : Stream → Reading → ℕ
read_of t Unbegun = 0
read_of t (Open h) = h.taken + t.received
read_of t Over = 0
