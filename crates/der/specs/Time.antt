-- UTCTime and GeneralizedTime as in certificates (RFC 5280, section 4.1.2.5), in seconds since
-- 1970-01-01 00:00:00 UTC.
use Rattle.std.specs.Prelude.{ℕ, ◌+◌, ◌-◌, ◌*◌, ◌==◌, ◌&&◌, nat_le, nat_lt, if◌then◌else◌, Bool, ℤ, pos, ◌+ℤ◌, ◌*ℤ◌}
use Rattle.jiff_core.specs.Calendar.{days_in_month, days_from_civil}
use Rattle.layouts.specs.Layout.{Layout, done, number, test, mapped, ◌>>=◌, ◌>>◌}
use Rattle.layouts.specs.declared.result.ErrorKind.TheVariants.{Verify}

-- An ASCII digit.
unfoldable pub digit : Layout ℕ
digit = do
  c ← number 1
  test (nat_le 0x30 c && nat_le c 0x39) Verify
  done (c - 0x30)

unfoldable pub two_digits : Layout ℕ
two_digits = do
  tens ← digit
  ones ← digit
  done (tens * 10 + ones)

-- A year of two digits is from 1950 to 2049 (RFC 5280, section 4.1.2.5.1).
unfoldable pub short_year : Layout ℕ
short_year = mapped (λ n. if nat_lt n 50 then 2000 + n else 1900 + n) two_digits

unfoldable pub full_year : Layout ℕ
full_year = do
  hundreds ← two_digits
  years ← two_digits
  done (hundreds * 100 + years)

-- The calendar has this day.
abbrev pub is_day : ℕ → ℕ → ℕ → Bool
is_day year month day =
    nat_le 1 month
    && (nat_le month 12 && (nat_le 1 day && nat_le day (days_in_month (pos year) month)))

-- Month and day, in days since 1970-01-01.
unfoldable pub day_of : ℕ → Layout ℤ
day_of year = do
  month ← two_digits
  day ← two_digits
  test (is_day year month day) Verify
  done (days_from_civil (pos year) month day)

-- A clock shows this time.
abbrev pub is_clock : ℕ → ℕ → ℕ → Bool
is_clock hour minute second = nat_lt hour 24 && (nat_lt minute 60 && nat_lt second 60)

-- Hour, minute and second, in seconds. A second 60, a leap second, is refused.
unfoldable pub clock : Layout ℕ
clock = do
  hour ← two_digits
  minute ← two_digits
  second ← two_digits
  test (is_clock hour minute second) Verify
  done (hour * 3600 + minute * 60 + second)

-- What follows a year, including the Z.
unfoldable pub behind_year : ℕ → Layout ℤ
behind_year year = do
  day ← day_of year
  seconds ← clock
  zone ← number 1
  test (zone == 0x5a) Verify
  done ((day *ℤ pos 86400) +ℤ pos seconds)

-- UTCTime: YYMMDDHHMMSSZ
unfoldable pub utc_time : Layout ℤ
utc_time = short_year >>= behind_year

-- GeneralizedTime: YYYYMMDDHHMMSSZ, without a fraction of a second (section 4.1.2.5.2)
unfoldable pub generalized_time : Layout ℤ
generalized_time = full_year >>= behind_year
