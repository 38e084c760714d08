-- Calls on one stream of any length: segments and deliveries, in any order.
use Rattle.std.specs.Prelude.{◌≡◌, ℕ, ◌+◌, ◌%◌, ◌^◌, ◌<◌, ◌≤◌, List, [], ◌∷◌, ◌++◌, length, min, take}
use Rattle.segments.specs.Cells.{Bytes, Held, run, with_segment, without_front}
use Rattle.segments.specs.Law.{IsAmong, IsLongestFront, IsPart}
use Rattle.segments.specs.declared.steps.Step.{Step}
use Rattle.segments.specs.declared.steps.Step.TheVariants.{Segment, Take}

-- What is buffered after a step, and what it delivers.
abbrev pub stepped : Step → Held → Held
stepped (Segment seq b) h = with_segment seq b.now h
stepped (Take most) h = without_front (min (length (run h.cells)) most) h

abbrev pub emitted : Step → Held → Bytes
emitted (Segment seq b) h = []
emitted (Take most) h = take (min (length (run h.cells)) most) (run h.cells)

-- What is buffered after steps, and what they deliver.
abbrev pub after : List Step → Held → Held
after [] h = h
after (s ∷ ss) h = after ss (stepped s h)

abbrev pub handed : List Step → Held → Bytes
handed [] h = []
handed (s ∷ ss) h = emitted s h ++ handed ss (stepped s h)

-- The position is less than 2^31 from the first unknown one.
abbrev pub IsNear : Bytes → List (ℕ × Bytes) → ℕ → Type 0
IsNear stream known place = (front : Bytes) → IsLongestFront stream (IsAmong known) front
    → (length front ≤ place + 2 ^ 31) × (place < length front + 2 ^ 31)

-- Each segment is a part of the stream at its position, which is near the byte that is the first
-- missing one when it comes.
abbrev pub AreNear : Bytes → ℕ → List (ℕ × Bytes) → List Step → List ℕ → Type 0
AreNear stream first known [] places = Unit {0}
AreNear stream first known (Take most ∷ ss) places = AreNear stream first known ss places
AreNear stream first known (Segment seq b ∷ ss) [] = ⊥
AreNear stream first known (Segment seq b ∷ ss) (p ∷ places) =
    IsPart stream p b.now × ((first + p) % 2 ^ 32 ≡ seq) × IsNear stream known p
    × AreNear stream first ((p, b.now) ∷ known) ss places

-- The received segments, each at its position.
abbrev pub came : List (ℕ × Bytes) → List Step → List ℕ → List (ℕ × Bytes)
came known [] places = known
came known (Take most ∷ ss) places = came known ss places
came known (Segment seq b ∷ ss) [] = known
came known (Segment seq b ∷ ss) (p ∷ places) = came ((p, b.now) ∷ known) ss places

-- For each stream that the segments are parts of: the delivered bytes, followed by the available
-- ones, are its longest prefix of which each byte was received.
abbrev pub IsReplayed : ℕ → List Step → Bytes → Bytes → Type 0
IsReplayed first steps out available =
    (stream : Bytes) (places : List ℕ) → AreNear stream first [] steps places
    → IsLongestFront stream (IsAmong (came [] steps places)) (out ++ available)
