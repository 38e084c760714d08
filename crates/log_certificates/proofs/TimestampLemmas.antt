-- The times of timestamps are as many as these.
use Rattle.std.proofs.Common.{◌≡◌, List, [], ◌∷◌, Some, refl, ap, length, suc}
use Rattle.log_formats.specs.Data.{count_data}
use Rattle.tls_key_exchange.specs.Timestamp.{SignedCertificateTimestamp}
use Rattle.log_certificates.specs.Timestamps.{count_value, times_in}

length_times : (ts : List SignedCertificateTimestamp) → length (times_in ts) ≡ length ts
length_times [] = refl
length_times (t ∷ ts) = ap (λ n. suc n) (length_times ts)

pub count_times : (ts : List SignedCertificateTimestamp)
    → count_value (times_in ts) ≡ count_value ts
count_times [] = refl
count_times (t ∷ ts) = ap (λ n. Some (count_data (suc n))) (length_times ts)
