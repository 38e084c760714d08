-- IPv6 datagrams longer than 65,535 bytes (RFC 2675).
use Rattle.std.specs.Prelude.{ℕ, ◌+◌, ◌*◌, ◌==◌, ◌&&◌, not, nat_le}
use Rattle.layouts.specs.Layout.{Layout, done, number, block, window, list, look, complete, test, choose, mapped, ◌>>=◌, ◌>>◌}
use Rattle.layouts.specs.declared.result.ErrorKind.TheVariants.{Tag, LengthValue}

-- An option that isn't the jumbo payload: Pad1, one byte; or type, length, and that many bytes (RFC
-- 8200, section 4.2).
unfoldable pub other_option : Layout Unit
other_option = do
  kind ← number 1
  test (not (kind == 0xc2)) Tag
  choose (kind == 0) (done tt) (number 1 >>= λ len. mapped (λ _. tt) (block len))

-- The options up to the first jumbo payload: its type, its length, which is 4, and the number of
-- bytes behind the IPv6 header (RFC 2675, section 2).
unfoldable pub jumbo_option : Layout ℕ
jumbo_option = do
  list other_option
  kind ← number 1
  test (kind == 0xc2) Tag
  len ← number 1
  test (len == 4) LengthValue
  number 4

-- The jumbo payload of a Hop-by-Hop Options header: next header, length in words of 8 bytes behind
-- the first 8, options. A jumbo length that fits in the payload length field is refused (RFC 2675,
-- section 3).
unfoldable pub jumbo_length : Layout ℕ
jumbo_length = do
  block 1
  words ← number 1
  len ← window (words * 8 + 6) (complete jumbo_option)
  test (nat_le 65536 len) LengthValue
  done len

-- How many bytes follow an IPv6 header with this payload length and next header. If the length is 0
-- and Hop-by-Hop Options follow, their jumbo payload gives it.
unfoldable pub payload_length : ℕ → ℕ → Layout ℕ
payload_length len next = choose ((len == 0) && (next == 0)) (look jumbo_length) (done len)
