-- A date has no LF.
use Rattle.std.proofs.Common.{ℕ, ◌+◌, ◌-◌, ◌*◌, ◌/◌, ◌%◌, List, [], ◌∷◌, ◌++◌, arith, refl}
use Rattle.std.specs.Prelude.{codes}
use Rattle.plus_blocks.specs.Date.{two_digits, four_digits, day_name, month_name, hour_of, minute_of, clock, time, spoken, numbered, mod_date, day_of, second_of}
use Rattle.plus_blocks.specs.Calendar.{date_of, weekday_of}
use Rattle.plus_blocks.specs.declared.date.Civil.{Civil}
use Rattle.plus_blocks.proofs.Clean.{IsClean, nil, two, cons, digit, part}

digits : (n : ℕ) → IsClean (two_digits n)
digits n = cons (48 + n / 10 % 10) ((48 + n % 10) ∷ []) (digit (48 + n / 10 % 10) (omega arith)) (cons (48 + n % 10) [] (digit (48 + n % 10) (omega arith)) nil)

year : (n : ℕ) → IsClean (four_digits n)
year n = two (two_digits (n / 100)) (two_digits n) (digits (n / 100)) (digits n)

-- a sign, and then more
then : (xs : List ℕ) (sign : ℕ) (ys : List ℕ) → IsClean (sign ∷ []) → IsClean xs → IsClean ys → IsClean ((xs ++ sign ∷ []) ++ ys)
then xs sign ys s x y = two (xs ++ sign ∷ []) ys (two xs (sign ∷ []) x s) y

space : IsClean (32 ∷ [])
space = record { none = refl }

colon : IsClean (58 ∷ [])
colon = record { none = refl }

day : (weekday : ℕ) → IsClean (day_name weekday)
unfolding day_name
day weekday = part 3 (3 * weekday) (codes "MonTueWedThuFriSatSun") (record { none = refl })

month : (m : ℕ) → IsClean (month_name m)
unfolding month_name
month m = part 3 (3 * (m - 1)) (codes "JanFebMarAprMayJunJulAugSepOctNovDec") (record { none = refl })

clean_clock : (second : ℕ) → IsClean (clock second)
clean_clock second =
    let hour = two_digits (hour_of second) in
    let minute = two_digits (minute_of second) in
    then ((hour ++ 58 ∷ []) ++ minute) 58 (two_digits (second % 60)) colon (then hour 58 minute colon (digits (hour_of second)) (digits (minute_of second))) (digits (second % 60))

clean_time : (second : ℕ) → IsClean (time second)
clean_time second =
    two (two_digits (hour_of second) ++ two_digits (minute_of second)) (two_digits (second % 60))
    (two (two_digits (hour_of second)) (two_digits (minute_of second)) (digits (hour_of second)) (digits (minute_of second))) (digits (second % 60))

clean_spoken : (date : Civil) (weekday second : ℕ) → IsClean (spoken date weekday second)
unfolding spoken
clean_spoken date weekday second =
    let one = (day_name weekday ++ 32 ∷ []) ++ month_name date.month in
    let two' = (one ++ 32 ∷ []) ++ two_digits date.day in
    let three = (two' ++ 32 ∷ []) ++ clock second in
    then three 32 (four_digits date.year) space
    (then two' 32 (clock second) space (then one 32 (two_digits date.day) space (then (day_name weekday) 32 (month_name date.month) space (day weekday) (month date.month)) (digits date.day)) (clean_clock second))
    (year date.year)

clean_numbered : (date : Civil) (second : ℕ) → IsClean (numbered date second)
unfolding numbered
clean_numbered date second =
    two ((four_digits date.year ++ two_digits date.month) ++ two_digits date.day) (time second)
    (two (four_digits date.year ++ two_digits date.month) (two_digits date.day) (two (four_digits date.year) (two_digits date.month) (year date.year) (digits date.month)) (digits date.day))
    (clean_time second)

pub clean_date : (stamp : ℕ) → IsClean (mod_date stamp)
unfolding mod_date
clean_date stamp =
    let date = date_of (day_of stamp) in
    let words = spoken date (weekday_of (day_of stamp)) (second_of stamp) in
    let more = numbered date (second_of stamp) in
    two ((words ++ codes " <") ++ more) (62 ∷ [])
    (two (words ++ codes " <") more (two words (codes " <") (clean_spoken date (weekday_of (day_of stamp)) (second_of stamp)) (record { none = refl })) (clean_numbered date (second_of stamp)))
    (record { none = refl })
