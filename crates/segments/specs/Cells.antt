-- What is buffered of a stream, from one position on.
use Rattle.std.specs.Prelude.{ℕ, zero, suc, ◌+◌, ◌-◌, ◌%◌, ◌^◌, ◌<◌, ◌⊎◌, ◌==◌, Bool, false, not, Option, Some, None, List, [], ◌∷◌, length, map, drop, nat_lt, if◌then◌else◌}

abbrev pub Bytes : Type 0
Bytes = List ℕ

-- At each position the byte received there, if any.
abbrev pub Cells : Type 0
Cells = List (Option ℕ)

-- The byte at a position, if any.
abbrev pub cell : Cells → ℕ → Option ℕ
cell [] i = None
cell (c ∷ cs) zero = c
cell (c ∷ cs) (suc i) = cell cs i

abbrev pub byte_at : Bytes → ℕ → Option ℕ
byte_at b i = cell (map Some b) i

-- The first of two that is present.
abbrev pub earlier : Option ℕ → Option ℕ → Option ℕ
earlier None o = o
earlier (Some x) o = Some x

-- The byte that is present, else the new one.
abbrev pub or_else : Option ℕ → ℕ → Option ℕ
or_else None y = Some y
or_else (Some x) y = Some x

-- Writes bytes to the empty positions, from the first one on.
abbrev pub fill : Cells → Bytes → Cells
fill [] ys = map Some ys
fill (c ∷ cs) [] = c ∷ cs
fill (c ∷ cs) (y ∷ ys) = or_else c y ∷ fill cs ys

-- Writes bytes to the empty positions, from a later one on.
abbrev pub fill_at : ℕ → Cells → Bytes → Cells
fill_at zero cs ys = fill cs ys
fill_at (suc k) [] ys = None ∷ fill_at k [] ys
fill_at (suc k) (c ∷ cs) ys = c ∷ fill_at k cs ys

-- Writes bytes to the empty positions from k on; no bytes change nothing.
abbrev pub put : ℕ → Bytes → Cells → Cells
put k [] cs = cs
put k (y ∷ ys) cs = fill_at k cs (y ∷ ys)

-- The bytes before the first empty position.
abbrev pub run : Cells → Bytes
run [] = []
run (None ∷ cs) = []
run (Some x ∷ cs) = x ∷ run cs

-- How many bytes are present.
abbrev pub known : Cells → ℕ
known [] = 0
known (None ∷ cs) = known cs
known (Some x ∷ cs) = suc (known cs)

-- How many positions are empty before the first byte.
abbrev pub empties : Cells → ℕ
empties [] = 0
empties (None ∷ cs) = suc (empties cs)
empties (Some x ∷ cs) = 0

-- How many bytes are present after the first empty position.
abbrev pub known_behind : Cells → ℕ
known_behind [] = 0
known_behind (None ∷ cs) = known cs
known_behind (Some x ∷ cs) = known_behind cs

-- How many bytes are missing before the first one present; 0 if none is present.
abbrev pub gap : Cells → ℕ
gap cs = if nat_lt 0 (known cs) then empties cs else 0

-- The byte that is present at a position differs from the new one.
abbrev pub differs : Option ℕ → ℕ → Bool
differs None y = false
differs (Some x) y = not (x == y)

-- At how many positions from k on the byte that is present differs from the new one.
abbrev pub differing : ℕ → Bytes → Cells → ℕ
differing k [] cs = 0
differing k (y ∷ ys) cs = (if differs (cell cs k) y then 1 else 0) + differing (suc k) ys cs

-- A stream that is buffered from the position `taken` on. The bytes before it were delivered or
-- skipped.
pub record Held : Type 0 where
  pub first : ℕ
  pub limit : ℕ
  pub taken : ℕ
  pub cells : Cells

-- The position of the first missing byte.
abbrev pub wanted : Held → ℕ
wanted h = h.taken + length (run h.cells)

-- How far a sequence number is ahead of that of a position, modulo 2^32.
abbrev pub ahead : ℕ → ℕ → ℕ → ℕ
ahead first place seq = (seq + (2 ^ 32 - (first + place % 2 ^ 32) % 2 ^ 32)) % 2 ^ 32

-- How far ahead of the next expected position bytes begin, and those of them that aren't before it.
abbrev pub located : ℕ → Bytes → ℕ × Bytes
located d b = if nat_lt d (2 ^ 31) then (d, b) else (0, drop (2 ^ 32 - d) b)

-- Writes the bytes of a segment to the empty positions.
abbrev pub with_located : ℕ × Bytes → Held → Held
with_located p h =
    record {
      first = h.first;
      limit = h.limit;
      taken = h.taken;
      cells =
          put (length (run h.cells) + p.0) p.1 h.cells;
    }

abbrev pub with_segment : ℕ → Bytes → Held → Held
with_segment seq b h = with_located (located (ahead h.first (wanted h) seq) b) h

-- At how many positions the buffered byte differs from that of a segment.
abbrev pub differing_located : ℕ × Bytes → Held → ℕ
differing_located p h = differing (length (run h.cells) + p.0) p.1 h.cells

abbrev pub differing_in : ℕ → Bytes → Held → ℕ
differing_in seq b h = differing_located (located (ahead h.first (wanted h) seq) b) h

-- How far ahead of the next expected position bytes at a position begin, and those of them that
-- aren't before it.
abbrev pub placed : ℕ → ℕ → Bytes → ℕ × Bytes
placed w place b = if nat_lt place w then (0, drop (w - place) b) else (place - w, b)

-- Writes bytes at a position of the stream to the empty positions.
abbrev pub with_part : ℕ → Bytes → Held → Held
with_part place b h = with_located (placed (wanted h) place b) h

-- Delivers the first n bytes.
abbrev pub without_front : ℕ → Held → Held
without_front n h =
    record { first = h.first; limit = h.limit; taken = h.taken + n; cells = drop n h.cells }

-- There are bytes, and they either begin after the next expected position and end further after it
-- than the limit, or make the stream longer than 2^62.
abbrev pub IsBeyond : ℕ × Bytes → Held → Type 0
IsBeyond p h = (0 < length p.1)
    × (((0 < p.0) × (h.limit < p.0 + length p.1)) ⊎ (2 ^ 62 < wanted h + p.0 + length p.1))

abbrev pub IsTooMuch : ℕ → Bytes → Held → Type 0
IsTooMuch seq b h = IsBeyond (located (ahead h.first (wanted h) seq) b) h
