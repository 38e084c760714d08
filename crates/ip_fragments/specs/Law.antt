-- Laws of reassembly, for the fragments of one datagram in any order and with any repeats.
use Rattle.std.specs.Prelude.{◌≡◌, ℕ, ◌<◌, ◌⊎◌, true, false, Option, None, List, [], ◌∷◌, length}
use Rattle.segments.specs.Cells.{Bytes, byte_at, earlier}
use Rattle.segments.specs.Law.{IsPart}
use Rattle.capture.specs.declared.fragment.IpFragment.{IpFragment}
use Rattle.ip_fragments.specs.Runs.{joined}
use Rattle.ip_fragments.specs.Waiting.{Waiting, Keeps, Completes, begun, bytes_of, end_of, given, is_whole, received}

-- A fragment was received, and didn't drop its datagram.
abbrev pub IsWith : IpFragment → Waiting → Waiting → Type 0
IsWith f v w = (received f v ≡ Keeps w) ⊎ (received f v ≡ Completes w)

-- These fragments arrived, the last one first.
abbrev pub IsAfter : ℕ → List IpFragment → Waiting → Type 0
IsAfter time [] w = w ≡ begun time
IsAfter time (f ∷ fs) w = (v : Waiting) × IsAfter time fs v × IsWith f v w

-- The byte that arrived first at an offset.
abbrev pub first_at : List IpFragment → ℕ → Option ℕ
first_at [] i = None
first_at (f ∷ fs) i = earlier (first_at fs i) (given f i)

-- Each fragment is a part of the datagram d at its offset, and only the last one ends it.
abbrev pub AreOf : Bytes → List IpFragment → Type 0
AreOf d [] = Unit {0}
AreOf d (f ∷ fs) = IsPart d f.offset (bytes_of f) × (f.has_more ≡ false → end_of f ≡ length d)
    × AreOf d fs

-- The payload reassembled from these fragments.
abbrev pub IsOut : List IpFragment → Bytes → Type 0
IsOut fs out = (time : ℕ)
    × ((w : Waiting) × IsAfter time fs w × (is_whole w ≡ true) × (out ≡ joined w.runs))

-- Each byte is the first that arrived at its offset.
abbrev pub HasTheFirst : List IpFragment → Bytes → Type 0
HasTheFirst fs out = (i : ℕ) → i < length out → byte_at out i ≡ first_at fs i

-- If the fragments are parts of one datagram, in any order, the result is that datagram.
abbrev pub IsTheDatagram : List IpFragment → Bytes → Type 0
IsTheDatagram fs out = (d : Bytes) → AreOf d fs → out ≡ d
