-- The bytes of a datagram that arrived, as Linux keeps and joins them (inet_frag_queue_insert).
use Rattle.std.specs.Prelude.{ℕ, suc, ◌+◌, ◌-◌, ◌*◌, ◌<◌, ◌≤◌, ◌==◌, ◌&&◌, nat_le, Bool, false, List, [], ◌∷◌, ◌++◌, length, take, drop, Option, None, if◌then◌else◌}
use Rattle.segments.specs.Cells.{Bytes, earlier}
use Rattle.segments.specs.Pages.{written}
use Rattle.ip_fragments.specs.declared.runs.Gap.{Gap}
use Rattle.ip_fragments.specs.declared.runs.Gap.TheVariants as gap
use Rattle.ip_fragments.specs.declared.runs.Place.{Place}
use Rattle.ip_fragments.specs.declared.runs.Place.TheVariants as place

-- Bytes without a gap, from an offset on. Of a list of runs, that with the highest offset comes
-- first.
pub record Run : Type 0 where
  pub start : ℕ
  pub bytes : Bytes

abbrev pub run_at : ℕ → Bytes → Run
run_at o b = record { start = o; bytes = b }

-- The offset behind the last byte.
abbrev pub end_of_run : Run → ℕ
end_of_run r = r.start + length r.bytes

-- At how many positions two lists of bytes differ, up to the shorter one's end.
abbrev pub unlike : Bytes → Bytes → ℕ
unlike [] ys = 0
unlike (x ∷ xs) [] = 0
unlike (x ∷ xs) (y ∷ ys) = (if x == y then 0 else 1) + unlike xs ys

-- What becomes of a fragment's bytes: they fit, and these are the runs with them; all are in one
-- run, where this many have another value; or they overlap a run.
pub data Placing : Type 0 where
  Fits : List Run → Placing
  Repeats : ℕ → Placing
  Overlaps : Placing

-- How many runs begin at this offset or behind it.
abbrev pub count_behind : ℕ → List Run → ℕ
count_behind end [] = 0
count_behind end (r ∷ rs) = if nat_le end r.start then suc (count_behind end rs) else 0

-- Bytes in front of the runs `high`, and not in front of the run below these, which decides.
abbrev pub landing : ℕ → Bytes → List Run → List Run → Placing
landing o b high [] = Fits (high ++ run_at o b ∷ [])
landing o b high (r ∷ low) =
    if nat_le (end_of_run r) o then Fits (high ++ run_at o b ∷ r ∷ low)
    else if nat_le r.start o && nat_le (o + length b) (end_of_run r) then
    Repeats (unlike (drop (o - r.start) r.bytes) b)
    else Overlaps

abbrev pub landing_at : ℕ → ℕ → Bytes → List Run → Placing
landing_at k o b rs = landing o b (take k rs) (drop k rs)

-- Bytes directly behind all others are added to the first run. Others become a run of their own in
-- a gap, or are those of a run.
abbrev pub follows : ℕ → List Run → Bool
follows o [] = false
follows o (r ∷ rs) = end_of_run r == o

abbrev pub extended : Bytes → List Run → List Run
extended b [] = []
extended b (r ∷ rs) = run_at r.start (r.bytes ++ b) ∷ rs

abbrev pub placed : ℕ → Bytes → List Run → Placing
placed o b rs = if follows o rs then Fits (extended b rs)
    else landing_at (count_behind (o + length b) rs) o b rs

-- The runs with bytes that fit in a gap, and what a place stands for.
abbrev pub runs_with : Gap → ℕ → Bytes → List Run → List Run
runs_with gap.End o b rs = extended b rs
runs_with (gap.At k) o b rs = take k rs ++ run_at o b ∷ drop k rs

abbrev pub IsGap : Gap → List Run → Type 0
IsGap gap.End rs = 0 < length rs
IsGap (gap.At k) rs = k ≤ length rs

-- How many runs are behind bytes in a gap. Those that end the first run are in front of it, too.
abbrev pub index_of : Gap → ℕ
index_of gap.End = 0
index_of (gap.At k) = k

abbrev pub placing_of : Place → ℕ → Bytes → List Run → Placing
placing_of (place.Fits g) o b rs = Fits (runs_with g o b rs)
placing_of (place.Repeats n) o b rs = Repeats n
placing_of place.Overlaps o b rs = Overlaps

abbrev pub IsPlace : Place → List Run → Type 0
IsPlace (place.Fits g) rs = IsGap g rs
IsPlace (place.Repeats n) rs = Unit {0}
IsPlace place.Overlaps rs = Unit {0}

-- How many bytes are in runs, and all of them in order.
abbrev pub filled : List Run → ℕ
filled [] = 0
filled (r ∷ rs) = length r.bytes + filled rs

abbrev pub joined : List Run → Bytes
joined [] = []
joined (r ∷ rs) = joined rs ++ r.bytes

-- The byte at an offset, if it arrived.
abbrev pub byte_in : List Run → ℕ → Option ℕ
byte_in [] i = None
byte_in (r ∷ rs) i = earlier (byte_in rs i) (written r.start r.bytes i)

-- The memory that runs count: twice their bytes, since a vector may have as much room again, and a
-- row of a vector and the overhead of an allocation each.
abbrev pub weight_in : List Run → ℕ
weight_in [] = 0
weight_in (r ∷ rs) = length r.bytes * 2 + 128 + weight_in rs

-- What bytes in a gap add to it besides twice their number.
abbrev pub cost_of : Gap → ℕ
cost_of gap.End = 0
cost_of (gap.At k) = 128
