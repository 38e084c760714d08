-- The fixed-size fields at the beginning of a ClientHello in the form of SSL 2.0, in its record.
use Rattle.std.specs.Prelude.{ℕ, ◌+◌, ◌-◌, ◌%◌, ◌≤◌, ◌==◌, ◌&&◌, ◌||◌, nat_le, nat_lt, Bool, length, is_ok, IsOkAnd}
use Rattle.layouts.specs.Bytes.{Bytes}
use Rattle.layouts.specs.Layout.{Layout, done, number, test, ◌>>=◌, ◌>>◌}
use Rattle.layouts.specs.Reading.{reading}
use Rattle.layouts.specs.declared.result.ErrorKind.TheVariants.{Tag, LengthValue, Verify}
use Rattle.ssl2_hello.specs.declared.front.FixedFields.{FixedFields as LentFields}

pub record FixedFields : Type 0 where
  pub version : ℕ
  pub cipher_spec_length : ℕ
  pub session_id_length : ℕ
  pub challenge_length : ℕ

abbrev pub view_fixed_fields : LentFields → FixedFields
view_fixed_fields f = record {
  version = f.version.0;
  cipher_spec_length = f.cipher_spec_length;
  session_id_length = f.session_id_length;
  challenge_length = f.challenge_length;
}

-- uint16 msg_length: its highest bit is set, and the other bits are the length of what follows in
-- the record (RFC 5246, appendix E.2).
unfoldable pub record_length : Layout ℕ
record_length = do
  n ← number 2
  test (nat_le 0x8000 n) Tag
  done (n - 0x8000)

-- SSL 2.0 is version 0x0002; SSL 3.0 and TLS have the major version 3, and any minor one (RFC 5246,
-- appendix E.1).
abbrev pub is_version : ℕ → Bool
is_version v = v == 0x0002 || nat_le 0x0300 v && nat_le v 0x03ff

-- The lengths of the three parts that follow. There is at least one CipherSpec, of 3 bytes each.
-- The session ID is one of SSL 3.0 (opaque SessionID<0..32>); those of SSL 2.0, of 16 bytes or
-- none, fit too. The challenge has 16 to 32 bytes.
unfoldable pub lengths : ℕ → Layout FixedFields
lengths version = do
  specs ← number 2
  test (specs % 3 == 0 && nat_lt 0 specs) LengthValue
  id ← number 2
  test (nat_le id 32) Verify
  challenge ← number 2
  test (nat_le 16 challenge && nat_le challenge 32) Verify
  done (record {
    version = version;
    cipher_spec_length = specs;
    session_id_length =
        id;
    challenge_length = challenge;
  })

-- uint8 msg_type, which is 1; Version version; and the lengths, which add up to a record of n bytes
-- with the 9 bytes before them.
unfoldable pub fixed_fields : ℕ → Layout FixedFields
fixed_fields n = do
  msg_type ← number 1
  test (msg_type == 1) Tag
  version ← number 2
  test (is_version version) Tag
  f ← lengths version
  test (9 + f.cipher_spec_length + f.session_id_length + f.challenge_length == n) LengthValue
  done f

-- The first 11 bytes of a stream.
unfoldable pub beginning : Layout FixedFields
beginning = do
  n ← record_length
  fixed_fields n

abbrev pub begins_ssl2_hello_in : Bytes → Bool
begins_ssl2_hello_in b = is_ok (reading beginning b)

-- The bytes begin with a whole record.
abbrev pub HasWholeRecord : Bytes → Type 0
HasWholeRecord b = IsOkAnd (reading record_length b) (λ x. x.0 ≤ length x.1)
