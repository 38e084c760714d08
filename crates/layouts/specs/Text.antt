-- The encoding of values: their fields in order, joined, each length before what it counts.
--
-- This states the order of fields a second time, independently of the layouts. The promises that
-- what was written reads back, and that what was read is written back, tie the two together.
use Rattle.std.specs.Prelude.{ℕ, List, [], ◌++◌, length, Option, Some, None}
use Rattle.std.specs.List.{flat_map}
use Rattle.layouts.specs.Bytes.{Bytes, bytes_of}

-- A length of k bytes, then the bytes that it counts (opaque<0..2^(8k)-1>; RFC 8446, section 3.4).
abbrev pub counted_text : ℕ → Bytes → Bytes
counted_text k b = bytes_of k (length b) ++ b

-- Numbers of k bytes each, big-endian.
abbrev pub numbers_text : ℕ → List ℕ → Bytes
numbers_text k xs = flat_map (bytes_of k) xs

-- The content of an optional block. None is written as an empty block.
abbrev pub held : Option Bytes → Bytes
held None = []
held (Some b) = b
