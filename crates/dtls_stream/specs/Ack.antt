-- ACK messages of DTLS 1.3 (RFC 9147, section 7).
use Rattle.std.specs.Prelude.{ℕ, ◌%◌, ◌==◌, List}
use Rattle.layouts.specs.Layout.{Layout, done, number, window, list, test, ◌>>=◌, ◌>>◌}
use Rattle.layouts.specs.declared.result.ErrorKind.TheVariants.{LengthValue}
use Rattle.dtls_stream.specs.declared.ack.RecordNumber.{RecordNumber as StoredRecordNumber}

pub record RecordNumber : Type 0 where
  pub epoch : ℕ
  pub sequence_number : ℕ

abbrev pub view_record_number : StoredRecordNumber → RecordNumber
view_record_number n = record { epoch = n.epoch; sequence_number = n.sequence_number }

-- uint64 epoch; uint64 sequence_number (section 4).
unfoldable pub record_number : Layout RecordNumber
record_number = do
  epoch ← number 8
  sequence_number ← number 8
  done (record { epoch = epoch; sequence_number = sequence_number })

-- RecordNumber record_numbers<0..2^16-1>: a length in bytes, a multiple of 16, and that many bytes
-- of record numbers.
unfoldable pub ack : Layout (List RecordNumber)
ack = do
  n ← number 2
  test (n % 16 == 0) LengthValue
  window n (list record_number)
