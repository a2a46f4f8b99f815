use Rattle.std.proofs.Common.{refl}
use Rattle.std.specs.Fmt.{digits}
use Rattle.plus_blocks.specs.Date.{mod_date, day_of, second_of, hour_of, spoken, numbered, day_name, month_name, dashed_day, dashed, slashed, listed_date, log_date}
use Rattle.plus_blocks.specs.Calendar.{date_of, date_from_year, date_in_year}
use Rattle.plus_blocks.specs.Blocks.{block, kilobytes, item_blocks, entry_attributes}
use Rattle.plus_blocks.proofs.laws.worked_examples.Goals as goal

pub returns-clause-dates : goal.returns-clause-dates
unfolding mod_date day_of second_of hour_of spoken numbered day_name month_name dashed_day dashed slashed listed_date log_date date_of date_from_year date_in_year
returns-clause-dates c = record { of_1993 = refl; least = refl; greatest = refl; leap_day = refl; in_a_listing = refl; in_a_log = refl }

pub returns-clause-blocks : goal.returns-clause-blocks
unfolding mod_date day_of second_of hour_of spoken numbered day_name month_name date_of date_from_year date_in_year block kilobytes item_blocks entry_attributes digits
returns-clause-blocks c = record {
  document = refl;
  unknown_name = refl;
  one_name = refl;
  summary = refl;
  form = refl;
  top_menu = refl;
  no_entries = refl;
  no_bytes = refl;
  no_summary = refl;
  empty_line = refl;
}
