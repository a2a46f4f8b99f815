-- The Gregorian calendar from 1970 to 9999, by days since 1 January 1970. ISO 8601.
use Rattle.std.specs.Prelude.{ℕ, zero, suc, ◌+◌, ◌-◌, ◌%◌, Bool, not, ◌&&◌, ◌||◌, ◌==◌, nat_lt, if◌then◌else◌}
use Rattle.plus_blocks.specs.declared.date.Civil.{Civil}

-- every fourth year, but of the centuries only every fourth
abbrev pub is_leap_year : ℕ → Bool
is_leap_year y = y % 4 == 0 && (not (y % 100 == 0) || y % 400 == 0)

abbrev pub days_in_year : ℕ → ℕ
days_in_year y = if is_leap_year y then 366 else 365

-- thirty days have September, April, June and November
abbrev pub days_in_month : ℕ → ℕ → ℕ
days_in_month y m =
    if m == 2 then (if is_leap_year y then 29 else 28)
    else (if m == 4 || m == 6 || m == 9 || m == 11 then 30 else 31)

-- the date so many days after the first of a month, where so many months follow in the year
unfoldable pub date_in_year : ℕ → ℕ → ℕ → ℕ → Civil
date_in_year zero y m days = record { year = y; month = m; day = days + 1 }
date_in_year (suc later) y m days =
    if nat_lt days (days_in_month y m) then record { year = y; month = m; day = days + 1 }
    else date_in_year later y (m + 1) (days - days_in_month y m)

-- the date so many days after the first of a year, where so many years may follow
unfoldable pub date_from_year : ℕ → ℕ → ℕ → Civil
unfolding date_in_year
date_from_year zero y days = date_in_year 11 y 1 days
date_from_year (suc later) y days =
    if nat_lt days (days_in_year y) then date_in_year 11 y 1 days
    else date_from_year later (y + 1) (days - days_in_year y)

-- the date of a day, up to the year 9999
unfoldable pub date_of : ℕ → Civil
date_of days = date_from_year 8029 1970 days

-- Monday is 0, and 1 January 1970 was a Thursday
abbrev pub weekday_of : ℕ → ℕ
weekday_of days = (days + 3) % 7
