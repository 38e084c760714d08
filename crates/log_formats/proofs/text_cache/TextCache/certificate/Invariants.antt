use Rattle.std.proofs.Common.{ℕ, ◌<◌, get_or}
use Rattle.log_formats.specs.Cached.{IsOfCertificate}
use Rattle.log_formats.specs.declared.text_cache.KnownCertificate.{KnownCertificate}
use Rattle.log_formats.proofs.text_cache.TextCache.certificate.Given as goal

abbrev pub invariant-loop-one : goal.invariant-loop-one
invariant-loop-one l =
    (k : ℕ) (d : KnownCertificate) → k < l.one-index
    → ¬ IsOfCertificate l.places l.certificate (get_or l.one-items k d)
