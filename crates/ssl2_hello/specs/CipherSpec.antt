-- CipherSpecs: numbers of 3 bytes.
use Rattle.std.specs.Prelude.{ℕ, nat_lt, if◌then◌else◌, Option, Some, None}

-- The TLS cipher suite of a CipherSpec: its last 2 bytes, if the first is 0 (RFC 5246, appendix
-- E.2). The others belong to SSL 2.0 itself.
abbrev pub suite_of : ℕ → Option ℕ
suite_of spec = if nat_lt spec 0x010000 then Some spec else None
