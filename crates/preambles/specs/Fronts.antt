-- The first bytes of a line or packet.
use Rattle.std.specs.Prelude.{ℕ, nat_lt, if◌then◌else◌, [], ◌∷◌, ◌++◌, List, length, take}
use Rattle.preambles.specs.declared.front.Front.{Front}

-- The bytes that are kept.
abbrev pub bytes_of : Front → List ℕ
bytes_of f = take f.len f.bytes

-- With one more byte: at most 64 are kept.
abbrev pub pushed : List ℕ → ℕ → List ℕ
pushed kept byte = if nat_lt (length kept) 64 then kept ++ byte ∷ [] else kept
