-- The buffered bytes of a direction.
use Rattle.std.specs.Prelude.{◌++◌, ◌+◌, ℕ, take, drop}
use Rattle.layouts.specs.Bytes.{Bytes}

pub record Held : Type 0 where
  -- the joined fragments, without the messages that were taken
  pub part : Bytes
  -- the stream after the records that were read
  pub unread : Bytes

-- The first n bytes after the header of 5 bytes are appended to the part.
abbrev pub joined : Held → ℕ → Held
joined h n = record { part = h.part ++ take n (drop 5 h.unread); unread = drop (5 + n) h.unread }
