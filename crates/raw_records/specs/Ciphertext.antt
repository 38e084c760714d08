-- Encrypted records of DTLS 1.3 (RFC 9147, section 4).
use Rattle.std.specs.Prelude.{ℕ, ◌+◌, ◌/◌, ◌%◌, ◌^◌, ◌==◌, nat_le, Bool, Option, Some, None}
use Rattle.std.specs.Option.{option_map}
use Rattle.layouts.specs.Bytes.{Bytes}
use Rattle.layouts.specs.Layout.{Layout, done, number, block, left, test, choose, mapped, ◌>>=◌, ◌>>◌}
use Rattle.layouts.specs.declared.result.ErrorKind.TheVariants.{LengthValue, Tag, TooLarge, Verify}
use Rattle.raw_records.specs.declared.ciphertext.SequenceNumber.{SequenceNumber as StoredSequenceNumber}
use Rattle.raw_records.specs.declared.ciphertext.SequenceNumber.TheVariants as stored
use Rattle.raw_records.specs.declared.ciphertext.UnifiedHeader.{UnifiedHeader as LentUnifiedHeader}
use Rattle.raw_records.specs.declared.ciphertext.DTLSCiphertext.{DTLSCiphertext as LentCiphertext}

-- The low 8 or 16 bits of a record's number, encrypted (section 4.2.3).
pub data SequenceNumber : Type 0 where
  Bits8 : ℕ → SequenceNumber
  Bits16 : ℕ → SequenceNumber

abbrev pub view_sequence_number : StoredSequenceNumber → SequenceNumber
view_sequence_number (stored.Bits8 n) = Bits8 n
view_sequence_number (stored.Bits16 n) = Bits16 n

pub record UnifiedHeader : Type 0 where
  pub connection_id : Option Bytes
  pub sequence_number : SequenceNumber
  pub length : Option ℕ
  -- the low 2 bits of the epoch
  pub epoch_bits : ℕ

abbrev pub view_unified_header : LentUnifiedHeader → UnifiedHeader
view_unified_header h = record {
  connection_id = option_map (λ x. x.now) h.connection_id;
  sequence_number = view_sequence_number h.sequence_number;
  length = h.length;
  epoch_bits = h.epoch_bits;
}

-- The first byte is 0 0 1 C S L E E (figure 3).
abbrev pub fixed_bits : ℕ → ℕ
fixed_bits first = first / 32

abbrev pub c_bit : ℕ → Bool
c_bit first = first / 16 % 2 == 1

abbrev pub s_bit : ℕ → Bool
s_bit first = first / 8 % 2 == 1

abbrev pub l_bit : ℕ → Bool
l_bit first = first / 4 % 2 == 1

-- If C is set, a connection ID of the negotiated length, which isn't 0: an empty ID isn't present.
unfoldable pub connection_id : Bool → ℕ → Layout (Option Bytes)
connection_id c id_length =
    choose c (test (nat_le 1 id_length) Verify >> mapped Some (block id_length)) (done None)

-- 16 bits if S is set, else 8.
unfoldable pub sequence_number : Bool → Layout SequenceNumber
sequence_number s = choose s (mapped Bits16 (number 2)) (mapped Bits8 (number 1))

-- 16 bits if L is set, else none.
unfoldable pub length_field : Bool → Layout (Option ℕ)
length_field l = choose l (mapped Some (number 2)) (done None)

-- The header, with connection IDs of this length: the first byte, connection ID, sequence number,
-- length.
unfoldable pub unified_hdr : ℕ → Layout UnifiedHeader
unified_hdr id_length = do
  first ← number 1
  test (fixed_bits first == 1) Tag
  id ← connection_id (c_bit first) id_length
  sequence ← sequence_number (s_bit first)
  length ← length_field (l_bit first)
  done (record {
    connection_id = id;
    sequence_number = sequence;
    length = length;
    epoch_bits =
        first % 4;
  })

-- An encrypted record of n bytes: at most 2^14 + 256 (RFC 8446, section 5.2), and at least the 16
-- that the sequence number is encrypted with (section 4.2.3).
unfoldable pub encrypted_record_of : ℕ → Layout Bytes
encrypted_record_of n = do
  test (nat_le n (2 ^ 14 + 256)) TooLarge
  test (nat_le 16 n) LengthValue
  block n

-- The encrypted record: as many bytes as the header's length, or without one the rest of the
-- datagram.
unfoldable pub encrypted_record : Option ℕ → Layout Bytes
encrypted_record (Some n) = encrypted_record_of n
encrypted_record None = left >>= encrypted_record_of

pub record Ciphertext : Type 0 where
  pub header : UnifiedHeader
  pub encrypted_record : Bytes

abbrev pub view_ciphertext : LentCiphertext → Ciphertext
view_ciphertext c =
    record { header = view_unified_header c.header; encrypted_record = c.encrypted_record.now }

-- DTLSCiphertext (figure 2), with connection IDs of this length.
unfoldable pub ciphertext : ℕ → Layout Ciphertext
ciphertext id_length = do
  header ← unified_hdr id_length
  bytes ← encrypted_record header.length
  done (record { header = header; encrypted_record = bytes })
