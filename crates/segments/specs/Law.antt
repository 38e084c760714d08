-- What is delivered of a stream, by the stream and its segments alone.
use Rattle.std.specs.Prelude.{◌≡◌, ◌↔◌, ℕ, ◌+◌, ◌%◌, ◌^◌, ◌<◌, ◌≤◌, ◌⊎◌, Some, List, [], ◌∷◌, ◌++◌, length, take}
use Rattle.std.specs.Borrow.{Bor}
use Rattle.std.specs.Option.{IsSome}
use Rattle.segments.specs.Cells.{Bytes, Held, ahead, byte_at, cell, run, wanted, with_segment, without_front}

-- A segment: the sequence number of its first byte, and its bytes.
abbrev pub Segment : Type 0
Segment = ℕ × Bor Bytes

-- How far after the stream's first byte a segment begins.
abbrev pub place_of : ℕ → Segment → ℕ
place_of first s = ahead first 0 s.0

-- The stream has these bytes at the position.
pub record IsPart (stream : Bytes) (place : ℕ) (b : Bytes) : Type 0 where
  pub before : Bytes
  pub behind : Bytes
  pub is : stream ≡ before ++ (b ++ behind)
  pub at : length before ≡ place

-- Each segment is a part of the stream at its position. A sequence number is below 2^32.
abbrev pub AreParts : Bytes → ℕ → List Segment → Type 0
AreParts stream first [] = Unit {0}
AreParts stream first (s ∷ ss) = (s.0 < 2 ^ 32) × IsPart stream (place_of first s) s.1.now
    × AreParts stream first ss

-- The position is one of those of the bytes.
abbrev pub IsOver : ℕ → Bytes → ℕ → Type 0
IsOver place b i = (place ≤ i) × (i < place + length b)

-- The byte at the position is in some segment.
abbrev pub IsCovered : ℕ → List Segment → ℕ → Type 0
IsCovered first [] i = ⊥
IsCovered first (s ∷ ss) i = IsOver (place_of first s) s.1.now i ⊎ IsCovered first ss i

-- The longest prefix of the stream of which each byte is known.
pub record IsLongestFront (stream : Bytes) (IsKnown : ℕ → Type 0) (front : Bytes) : Type 0 where
  pub rest : Bytes
  pub is_front : stream ≡ front ++ rest
  pub known : (i : ℕ) → i < length front → IsKnown i
  pub ends : IsKnown (length front) → ⊥

-- For each stream of fewer than 2^31 bytes that the segments are parts of: `out` is the longest
-- prefix of which each byte is in some segment.
abbrev pub IsReassembled : ℕ → List Segment → Bytes → Type 0
IsReassembled first segments out =
    (stream : Bytes) → length stream < 2 ^ 31 → AreParts stream first segments
    → IsLongestFront stream (IsCovered first segments) out

-- The buffered bytes are the known bytes of the stream.
pub record IsMadeOf (stream : Bytes) (IsKnown : ℕ → Type 0) (h : Held) : Type 0 where
  pub stands : (k y : ℕ) → cell h.cells k ≡ Some y
      → IsKnown (h.taken + k) × (byte_at stream (h.taken + k) ≡ Some y)
  pub held : (k : ℕ) → IsKnown (h.taken + k) → IsSome (cell h.cells k)
  pub given : (i : ℕ) → i < h.taken → IsKnown i

-- The position is one of those of some bytes at a position.
abbrev pub IsAmong : List (ℕ × Bytes) → ℕ → Type 0
IsAmong [] i = ⊥
IsAmong (s ∷ ss) i = IsOver s.0 s.1 i ⊎ IsAmong ss i

-- Two lists of segments that cover the same positions deliver the same bytes.
abbrev pub HandsOutTheSame : Bytes → ℕ → List Segment → List Segment → Type 0
HandsOutTheSame stream first p q = (x y : Bytes)
    → ((i : ℕ) → IsCovered first p i ↔ IsCovered first q i)
    → IsLongestFront stream (IsCovered first p) x
    → IsLongestFront stream (IsCovered first q) y
    → x ≡ y

-- If these bytes of the stream are known, a part of it near the next expected position makes its
-- own positions known, and nothing else.
abbrev pub MakesItsPlacesKnown : Bytes → List (ℕ × Bytes) → Held → Type 0
MakesItsPlacesKnown stream known h = (place seq : ℕ) (b : Bytes)
    → IsMadeOf stream (IsAmong known) h
    → IsPart stream place b
    → (h.first + place) % 2 ^ 32 ≡ seq
    → wanted h ≤ place + 2 ^ 31
    → place < wanted h + 2 ^ 31
    → IsMadeOf stream (IsAmong ((place, b) ∷ known)) (with_segment seq b h)

-- What is known stays known after some available bytes are delivered.
abbrev pub KeepsWhatIsKnown : Bytes → List (ℕ × Bytes) → Held → Type 0
KeepsWhatIsKnown stream known h = (n : ℕ)
    → IsMadeOf stream (IsAmong known) h
    → n ≤ length (run h.cells)
    → IsMadeOf stream (IsAmong known) (without_front n h)

-- The delivered bytes, followed by the available ones, are the longest known prefix.
abbrev pub EndsTheLongestFront : Bytes → List (ℕ × Bytes) → Held → Type 0
EndsTheLongestFront stream known h =
    IsMadeOf stream (IsAmong known) h
    → h.taken ≤ length stream
    → IsLongestFront stream (IsAmong known) (take h.taken stream ++ run h.cells)
