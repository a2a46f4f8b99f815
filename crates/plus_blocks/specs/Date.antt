-- The date and time of a stamp in UTC. The Gopher+ paper, section 2.4 (`Mod-Date`); the words before the brackets are this project's profile.
use Rattle.std.specs.Prelude.{ℕ, ◌+◌, ◌-◌, ◌*◌, ◌/◌, ◌%◌, List, [], ◌∷◌, ◌++◌, take, drop, codes}
use Rattle.plus_blocks.specs.Calendar.{date_of, weekday_of}
use Rattle.plus_blocks.specs.declared.date.Civil.{Civil}

-- the last two and the last four digits
abbrev pub two_digits : ℕ → List ℕ
two_digits n = (48 + n / 10 % 10) ∷ (48 + n % 10) ∷ []

abbrev pub four_digits : ℕ → List ℕ
four_digits n = two_digits (n / 100) ++ two_digits n

-- the name of three letters at a place
abbrev pub name_at : ℕ → List ℕ → List ℕ
name_at place names = take 3 (drop (3 * place) names)

unfoldable pub day_name : ℕ → List ℕ
day_name weekday = name_at weekday (codes "MonTueWedThuFriSatSun")

-- January is 1
unfoldable pub month_name : ℕ → List ℕ
month_name month = name_at (month - 1) (codes "JanFebMarAprMayJunJulAugSepOctNovDec")

-- the day of a stamp, and the seconds of that day
unfoldable pub day_of : ℕ → ℕ
day_of stamp = stamp / 86400

unfoldable pub second_of : ℕ → ℕ
second_of stamp = stamp % 86400

unfoldable pub hour_of : ℕ → ℕ
hour_of second = second / 3600

abbrev pub minute_of : ℕ → ℕ
minute_of second = second / 60 % 60

abbrev pub clock : ℕ → List ℕ
clock second = two_digits (hour_of second) ++ codes ":" ++ two_digits (minute_of second) ++ codes ":" ++ two_digits (second % 60)

-- the same without signs
abbrev pub time : ℕ → List ℕ
time second = two_digits (hour_of second) ++ two_digits (minute_of second) ++ two_digits (second % 60)

-- as `Wed Jul 28 17:02:01 1993`
unfoldable pub spoken : Civil → ℕ → ℕ → List ℕ
spoken date weekday second =
    day_name weekday ++ codes " " ++ month_name date.month ++ codes " " ++ two_digits date.day
    ++ codes " " ++ clock second ++ codes " " ++ four_digits date.year

-- as `19930728170201`
unfoldable pub numbered : Civil → ℕ → List ℕ
numbered date second =
    four_digits date.year ++ two_digits date.month ++ two_digits date.day ++ time second

-- as `1993-07-28`
unfoldable pub dashed_day : Civil → List ℕ
dashed_day date = four_digits date.year ++ codes "-" ++ two_digits date.month ++ codes "-" ++ two_digits date.day

-- as `1993-07-28T17:02:01Z` (RFC 3339)
unfoldable pub dashed : Civil → ℕ → List ℕ
dashed date second = dashed_day date ++ codes "T" ++ clock second ++ codes "Z"

-- as `28/Jul/1993:17:02:01 +0000`, which the common log format of web servers has
unfoldable pub slashed : Civil → ℕ → List ℕ
slashed date second =
    two_digits date.day ++ codes "/" ++ month_name date.month ++ codes "/" ++ four_digits date.year
    ++ codes ":" ++ clock second ++ codes " +0000"

abbrev pub dated : Civil → ℕ → ℕ → List ℕ
dated date weekday second = spoken date weekday second ++ codes " <" ++ numbered date second ++ codes ">"

unfoldable pub mod_date : ℕ → List ℕ
mod_date stamp = dated (date_of (day_of stamp)) (weekday_of (day_of stamp)) (second_of stamp)

unfoldable pub listed_date : ℕ → List ℕ
listed_date stamp = dashed (date_of (day_of stamp)) (second_of stamp)

unfoldable pub log_date : ℕ → List ℕ
log_date stamp = slashed (date_of (day_of stamp)) (second_of stamp)
