-- What a read of a source adds to the buffer.
use Rattle.std.specs.Prelude.{◌≡◌, ℕ, ◌++◌, length, List, Option}
use Rattle.std.specs.Io.KnownBytes.{Consumes, IsAtEnd}
use Rattle.layouts.specs.Bytes.{Bytes}

-- n bytes came off the front of the source's remaining bytes, where these are known, and were
-- appended to the buffer. None came only at the source's end.
pub record Came (held held' : Bytes) (known known' : Option (List ℕ)) (n : ℕ) : Type 0 where
  pub bytes : Bytes
  pub count : length bytes ≡ n
  pub holds : held' ≡ held ++ bytes
  pub gave : Consumes known known' bytes
  pub ended : n ≡ 0 → IsAtEnd known'
