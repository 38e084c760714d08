-- Headers of DTLS with further bytes after them.
use Rattle.layouts.specs.Bytes.{Bytes, AreBytes}
use Rattle.layouts.specs.Stable.{CountsMissing, Decides, CountsDown}
use Rattle.layouts.proofs.StableLemmas.{decides, counts_down, counting_is_stable}
use Rattle.raw_records.specs.RawDtlsRecord.{RecordHeader, RawRecord, record_header}

abbrev pub raw_of : RecordHeader → Bytes → RawRecord
raw_of h f = record { header = h; fragment = f }

pub header_counts : CountsMissing record_header
unfolding record_header
header_counts = (tt, λ k. (tt, λ v. (tt, λ c. (tt, λ n. tt))))

pub header_decides : (b s : Bytes) → AreBytes b → AreBytes s → Decides record_header b s
header_decides b s are more =
    decides record_header (counting_is_stable record_header header_counts) b s are more

pub header_counts_down : (b s : Bytes) → AreBytes b → AreBytes s → CountsDown record_header b s
header_counts_down b s are more = counts_down record_header header_counts b s are more
