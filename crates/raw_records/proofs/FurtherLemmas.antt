-- Headers and raw records of TLS with further bytes after them.
use Rattle.layouts.specs.Bytes.{Bytes, AreBytes}
use Rattle.layouts.specs.Layout.{rest}
use Rattle.layouts.specs.Stable.{CountsMissing, Decides, CountsDown}
use Rattle.layouts.proofs.StableLemmas.{decides, counts_down, counting_is_stable}
use Rattle.raw_records.specs.RawRecord.{RecordHeader, RawRecord, record_header, raw_record}
use Rattle.raw_records.proofs.FramedLemmas.{raw_counts}

abbrev pub raw_of : RecordHeader → Bytes → RawRecord
raw_of h f = record { header = h; fragment = f }

pub header_counts : CountsMissing record_header
unfolding record_header
header_counts = (tt, λ k. (tt, λ v. (tt, λ n. tt)))

pub raw_record_counts : CountsMissing raw_record
unfolding raw_record
raw_record_counts =
    raw_counts record_header (λ h. h.length) (λ _. rest) raw_of raw_of header_counts

pub header_decides : (b s : Bytes) → AreBytes b → AreBytes s → Decides record_header b s
header_decides b s are more =
    decides record_header (counting_is_stable record_header header_counts) b s are more

pub header_counts_down : (b s : Bytes) → AreBytes b → AreBytes s → CountsDown record_header b s
header_counts_down b s are more = counts_down record_header header_counts b s are more

pub raw_record_decides : (b s : Bytes) → AreBytes b → AreBytes s → Decides raw_record b s
raw_record_decides b s are more =
    decides raw_record (counting_is_stable raw_record raw_record_counts) b s are more

pub raw_record_counts_down : (b s : Bytes) → AreBytes b → AreBytes s → CountsDown raw_record b s
raw_record_counts_down b s are more = counts_down raw_record raw_record_counts b s are more
