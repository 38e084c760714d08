-- Records of TLS and of DTLS, for any header: the header, and a fragment of the length in it.
use Rattle.std.specs.Prelude.{ℕ, ◌+◌, ◌-◌, ◌<◌, ◌≤◌, ◌⊎◌, length, take, drop, Err, nat_le, ⊤}
use Rattle.layouts.specs.Bytes.{Bytes, number_of}
use Rattle.layouts.specs.Layout.{Layout, done, block, window, ◌>>=◌, ◌>>◌, test}
use Rattle.layouts.specs.Answers.{Returned}
use Rattle.layouts.specs.declared.result.Err.TheVariants as err
use Rattle.layouts.specs.declared.result.ErrorKind.TheVariants.{TooLarge}

-- The maximum length of a fragment in bytes, 2^14 + 256. It is the limit of RFC 8446, section 5.2,
-- for encrypted records, and is used for all records. RFC 5246, section 6.2, and RFC 6347, section
-- 4.1, have others: 2^14 bytes for a record that isn't encrypted, and 2^14 + 2048 for one that is.
abbrev pub max_fragment_length : ℕ
max_fragment_length = 16640

-- The maximum length of an encrypted record's fragment up to TLS 1.2, in bytes: 2^14 + 2048 (RFC
-- 5246, section 6.2.3).
abbrev pub max_encrypted_length : ℕ
max_encrypted_length = 18432

-- A record whose fragment isn't parsed. The length is checked before any byte of the fragment is
-- read.
abbrev pub framed_raw_record : {H R : Type 0} → Layout H → (H → ℕ) → (H → Bytes → R) → Layout R
framed_raw_record header length_in record_of = do
  h ← header
  test (nat_le (length_in h) max_fragment_length) TooLarge
  fragment ← block (length_in h)
  done (record_of h fragment)

-- A record whose fragment is parsed, within the fragment's bytes. Bytes that the content leaves are
-- dropped.
abbrev pub framed_record : {H C R : Type 0} → Layout H → (H → ℕ) → (H → Layout C)
    → (H → C → R) → Layout R
framed_record header length_in content record_of = do
  h ← header
  test (nat_le (length_in h) max_fragment_length) TooLarge
  c ← window (length_in h) (content h)
  done (record_of h c)

-- The length in a header of n bytes: the number in its last 2.
abbrev pub fragment_length : ℕ → Bytes → ℕ
fragment_length n b = number_of (take 2 (drop (n - 2) b))

-- The bytes begin with a complete record: the n bytes of its header, and as many as the length
-- there.
pub record IsWhole (n : ℕ) (b : Bytes) : Type 0 where
  pub has_header : n ≤ length b
  pub has_fragment : n + fragment_length n b ≤ length b

-- The length in a header of n bytes is above the maximum.
pub record IsTooLarge (n : ℕ) (b : Bytes) : Type 0 where
  pub has_header : n ≤ length b
  pub above : max_fragment_length < fragment_length n b

-- The bytes begin with no record whose fragment could be parsed: none is complete, or its length is
-- too large.
abbrev pub HasNoRecord : ℕ → Bytes → Type 0
HasNoRecord n b = (IsWhole n b → ⊥) ⊎ IsTooLarge n b

-- Further bytes are needed: no record is complete, and no length is too large.
abbrev pub NeedsMore : ℕ → Bytes → Type 0
NeedsMore n b = (IsWhole n b → ⊥) × (IsTooLarge n b → ⊥)

-- The result is `Incomplete`.
abbrev pub IsIncomplete : {X : Type 0} → Returned X → Type 0
IsIncomplete (Err (err.Incomplete n)) = ⊤
IsIncomplete r = ⊥

-- The result isn't `Incomplete`.
abbrev pub AsksNoMore : {X : Type 0} → Returned X → Type 0
AsksNoMore (Err (err.Incomplete n)) = ⊥
AsksNoMore r = ⊤
