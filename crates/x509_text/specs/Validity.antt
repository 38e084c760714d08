-- How long a certificate is valid (RFC 5280, section 4.1.2.5).
use Rattle.std.specs.Prelude.{ℕ, ◌/◌, ℤ, pos, negsuc, ◌-ℤ◌, Option, Some, None}
use Rattle.x509.specs.declared.validity.Validity.{Validity}

-- Whole days in seconds that aren't negative.
abbrev pub whole_days : ℤ → Option ℕ
whole_days (pos seconds) = Some (seconds / 86400)
whole_days (negsuc n) = None

abbrev pub validity_days : Validity → Option ℕ
validity_days v = whole_days (v.not_after -ℤ v.not_before)
