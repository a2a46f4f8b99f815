use Rattle.std.proofs.Common.{◌≡◌, arith, refl}
use Rattle.std.proofs.lemmas.Int.{ints}
use Rattle.jiff_core.proofs.CalendarLemmas.{weekday_number-parts}
use Rattle.jiff_core.specs.Date.{epoch_day}
use Rattle.jiff_core.proofs.SignedLemmas.{signed_arith}
use Rattle.plus_blocks.specs.Calendar.{date_of}
use Rattle.plus_blocks.proofs.CivilDates.{same_date}
use Rattle.plus_blocks.proofs.date.day_at.Goals as goal

pub returns-clause-civil : goal.returns-clause-civil
returns-clause-civil c =
    let same = same_date c.date_after-date.result c.args.days c.requires c.date_after-date.ensures in
    let year : c.unsigned_abs-year.result ≡ (date_of c.args.days).year = omega (arith, ints, c.unsigned_abs-year.ensures.value, c.year.ensures, same.0) in
    let month : c.unsigned_abs-month.result ≡ (date_of c.args.days).month = omega (arith, ints, c.unsigned_abs-month.ensures.value, c.month.ensures, same.1) in
    let day : c.unsigned_abs-day.result ≡ (date_of c.args.days).day = omega (arith, ints, c.unsigned_abs-day.ensures.value, c.day.ensures, same.2) in
    rw (year, month, day) refl

pub returns-clause-weekday : goal.returns-clause-weekday
returns-clause-weekday c =
    omega (arith, ints, signed_arith, c.unsigned_abs-weekday.ensures.value, c.to_monday_zero_offset.ensures.value, c.weekday.ensures, weekday_number-parts (epoch_day c.date_after-date.result), c.date_after-date.ensures)
