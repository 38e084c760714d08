-- Times as texts (RFC 3339, section 5.6).
use Rattle.std.specs.Prelude.{◌≡◌, ◌+◌, ◌/◌, ◌%◌, ◌++◌, ℕ, ℤ, pos, ◌*ℤ◌, negsuc, suc, List, [], ◌∷◌, Option, Some, None, String}
use Rattle.std.specs.Str.{byte}
use Rattle.std.specs.declared.alloc.Global.{Global}
use Rattle.std.specs.String.{string_bytes}
use Rattle.jiff_core.specs.DateTime.{civil_nanos, IsCivilNanos}
use Rattle.jiff_core.specs.declared.civil.date.Date.{Date}
use Rattle.jiff_core.specs.declared.civil.datetime.DateTime.{DateTime}
use Rattle.jiff_core.specs.declared.civil.time.Time.{Time}

-- The last two digits of a number, and the last four.
abbrev pub two_digits : ℕ → List ℕ
two_digits n = (48 + n / 10 % 10) ∷ (48 + n % 10) ∷ []

abbrev pub four_digits : ℕ → List ℕ
four_digits n = two_digits (n / 100) ++ two_digits n

-- A day, such as 2026-11-25T and -0001-12-31T, a time of the day, such as 12:00:00Z, and both.
abbrev pub day_text : ℕ → ℕ → List ℕ
day_text month day = two_digits month ++ byte "-" ∷ (two_digits day ++ byte "T" ∷ [])

abbrev pub year_text : ℤ → List ℕ
year_text (pos n) = four_digits n ++ byte "-" ∷ []
year_text (negsuc n) = byte "-" ∷ (four_digits (suc n) ++ byte "-" ∷ [])

abbrev pub date_text : Date → List ℕ
date_text d = year_text d.year ++ day_text d.month d.day

abbrev pub minute_text : ℕ → ℕ → List ℕ
minute_text minute second = two_digits minute ++ byte ":" ∷ (two_digits second ++ byte "Z" ∷ [])

abbrev pub clock_text : Time → List ℕ
clock_text t = (two_digits t.hour ++ byte ":" ∷ []) ++ minute_text t.minute t.second

abbrev pub date_time_text : DateTime → List ℕ
date_time_text t = date_text t.date ++ clock_text t.time

-- t is the time this many seconds after 1970-01-01 00:00:00.
abbrev pub IsAt : ℤ → DateTime → Type 0
IsAt seconds t = civil_nanos t ≡ seconds *ℤ pos 1_000_000_000

-- The text of the time, or None if the calendar, which ends with the year 9999, doesn't have it.
abbrev pub IsTextOf : ℤ → Option (String Global) → Type 0
IsTextOf seconds (Some text) =
    (t : DateTime) × IsAt seconds t × (string_bytes text ≡ date_time_text t)
IsTextOf seconds None = ¬ (IsCivilNanos (seconds *ℤ pos 1_000_000_000))
