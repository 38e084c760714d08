-- A record is a raw record, then its fragment.
use Rattle.std.proofs.Common.{◌≡◌, refl}
use Rattle.layouts.specs.Bytes.{Bytes}
use Rattle.layouts.specs.Reading.{reading, ◌and_then◌}
use Rattle.raw_records.specs.RawRecord.{record_header, raw_record}
use Rattle.tls_records.specs.Record.{record_content, plaintext, read_content}
use Rattle.raw_records.proofs.FramedLemmas.{framed_is_raw_then_content}

pub plaintext_is_raw_then_content : (b : Bytes)
    → reading plaintext b ≡ reading raw_record b and_then read_content
unfolding plaintext raw_record
plaintext_is_raw_then_content b =
    framed_is_raw_then_content record_header (λ h. h.length) record_content
    (λ h m. record { header = h; messages = m }) (λ h f. record { header = h; fragment = f })
    read_content
    (λ h f r. refl) b
