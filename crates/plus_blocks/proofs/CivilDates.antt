-- The walk over years and months gives the date that `jiff` has for a day.
use Rattle.std.proofs.Common.{◌≡◌, ℕ, zero, suc, ◌+◌, ◌-◌, ◌<◌, ◌≤◌, nat_lt, Bool, true, false, pos, refl, sym, ◌∙◌, subst, inl, inr, arith, if◌then◌else◌}
use Rattle.std.proofs.lemmas.Bool.{cases_lt}
use Rattle.std.proofs.lemmas.Bool.Decides.{nat_tests}
use Rattle.jiff_core.specs.declared.civil.date.Date.{Date}
use Rattle.jiff_core.specs.Calendar.{day_count, IsCivilDate}
use Rattle.jiff_core.specs.Date.{epoch_day}
use Rattle.jiff_core.proofs.SignedLemmas.{signed_arith}
use Rattle.jiff_core.proofs.CalendarLemmas.{day_count-epoch, days_from_civil-day_count, day_count-next_month, day_count-next_year, day_count-last_of_year, day_count-day, day_count-end}
use Rattle.jiff_core.proofs.DateLemmas.{epoch_day_injective}
use Rattle.plus_blocks.specs.Calendar.{date_of, date_from_year, date_in_year, days_in_month, days_in_year}
use Rattle.plus_blocks.specs.declared.date.Civil.{Civil}

-- a date of the calendar that has so many days before it
record IsFor (c : Civil) (count : ℕ) : Type 0 where
  civil : IsCivilDate (pos c.year) c.month c.day
  is : day_count (pos c.year) c.month c.day ≡ count

within : (a b : ℕ) (x y : Civil) (P : Civil → Type 0) → (a < b → P x) → (b ≤ a → P y) → P (if nat_lt a b then x else y)
within a b x y P less other = elim (cases_lt a b) [
  | inl lt ↦ (let t : nat_lt a b ≡ true = grind (arith, nat_tests) in subst (λ (c : Bool). P (if c then x else y)) (sym t) (less lt))
  | inr le ↦ (let t : nat_lt a b ≡ false = grind (arith, nat_tests) in subst (λ (c : Bool). P (if c then x else y)) (sym t) (other le))
]

-- a day within a month
here : (y m days : ℕ) → y ≤ 9999 → 1 ≤ m → m ≤ 12 → days < days_in_month y m → IsFor (record { year = y; month = m; day = days + 1 }) (day_count (pos y) m 1 + days)
here y m days year first last lt = record {
  civil = (omega (arith, signed_arith), (first, last), (omega arith, omega (arith, lt)));
  is = omega (arith, day_count-day (pos y) m 1 (days + 1) (omega arith) (omega arith));
}

in_year : (later y m days : ℕ) → y ≤ 9999 → later + m ≡ 12 → 1 ≤ m → day_count (pos y) m 1 + days < day_count (pos y) 1 1 + days_in_year y → IsFor (date_in_year later y m days) (day_count (pos y) m 1 + days)
unfolding date_in_year
in_year zero y m days year months first before =
    let december : m ≡ 12 = omega (arith, months) in
    subst (λ k. day_count (pos y) k 1 + days < day_count (pos y) 1 1 + days_in_year y → IsFor (record { year = y; month = k; day = days + 1 }) (day_count (pos y) k 1 + days)) (sym december)
    (λ lt. here y 12 days year (omega arith) (omega arith) (omega (arith, lt, day_count-last_of_year (pos y), day_count-day (pos y) 12 1 31 (omega arith) (omega arith)))) before
in_year (suc later) y m days year months first before =
    within days (days_in_month y m) (record { year = y; month = m; day = days + 1 }) (date_in_year later y (m + 1) (days - days_in_month y m)) (λ c. IsFor c (day_count (pos y) m 1 + days))
    (λ lt. here y m days year first (omega (arith, months)) lt)
    (λ le.
    let next = day_count-next_month (pos y) m first in
    subst (λ k. IsFor (date_in_year later y (m + 1) (days - days_in_month y m)) k) (omega (arith, next, le))
    (in_year later y (m + 1) (days - days_in_month y m) year (omega (arith, months)) (omega arith) (omega (arith, next, le, before))))

from_year : (later y days : ℕ) → later + y ≡ 9999 → day_count (pos y) 1 1 + days < 7304850 → IsFor (date_from_year later y days) (day_count (pos y) 1 1 + days)
unfolding date_from_year
from_year zero y days last before =
    let next = day_count-next_year (pos y) (pos 10000) (omega (arith, signed_arith)) (omega (arith, signed_arith, last)) in
    in_year 11 y 1 days (omega (arith, last)) refl (omega arith) (omega (arith, next, day_count-end, before))
from_year (suc later) y days last before =
    let next = day_count-next_year (pos y) (pos (y + 1)) (omega (arith, signed_arith)) (omega (arith, signed_arith)) in
    within days (days_in_year y) (date_in_year 11 y 1 days) (date_from_year later (y + 1) (days - days_in_year y)) (λ c. IsFor c (day_count (pos y) 1 1 + days))
    (λ lt. in_year 11 y 1 days (omega (arith, last)) refl (omega arith) (omega (arith, lt)))
    (λ le.
    subst (λ k. IsFor (date_from_year later (y + 1) (days - days_in_year y)) k) (omega (arith, next, le))
    (from_year later (y + 1) (days - days_in_year y) (omega (arith, last)) (omega (arith, next, le, before))))

walked : (n : ℕ) → n ≤ 2932896 → IsFor (date_of n) (4371953 + n)
unfolding date_of
walked n le = subst (λ k. IsFor (date_of n) (k + n)) day_count-epoch (from_year 8029 1970 n refl (omega (arith, day_count-epoch, le)))

-- the date that `jiff` has for a day is the one of the walk
pub same_date : (d : Date) (n : ℕ) → n ≤ 2932896 → epoch_day d ≡ pos n → (d.year ≡ pos (date_of n).year) × (d.month ≡ (date_of n).month) × (d.day ≡ (date_of n).day)
same_date d n le is =
    let w = walked n le in
    let c = date_of n in
    let other : Date = record { year = pos c.year; month = c.month; day = c.day; year_in = w.civil.0; month_in = w.civil.1; day_in = w.civil.2 } in
    epoch_day_injective d other (is ∙ omega (arith, signed_arith, days_from_civil-day_count (pos c.year) c.month c.day, w.is))
