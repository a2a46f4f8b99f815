use Rattle.std.proofs.Common.{refl}
use Rattle.request_reader.specs.Lines.{front, first_line}
use Rattle.request_reader.specs.RequestLine.{parsed_line}
use Rattle.request_reader.specs.DataHead.{most_data, counted, extent_of}
use Rattle.request_reader.specs.DataLines.{room, is_too_much}
use Rattle.request_reader.specs.Verdict.{verdict}
use Rattle.request_reader.proofs.laws.worked_examples.Goals as goal

pub returns-clause-lines : goal.returns-clause-lines
unfolding front first_line parsed_line most_data counted extent_of room is_too_much verdict
returns-clause-lines c = record {
  top = refl;
  selector = refl;
  line_feed = refl;
  words = refl;
  empty_end = refl;
  empty_second = refl;
  further_field = refl;
  inner_cr = refl;
  nul = refl;
  not_yet = refl;
  early = refl;
  greatest_selector = refl;
  long_selector = refl;
  greatest_line = refl;
  long_line = refl;
}

pub returns-clause-plus : goal.returns-clause-plus
unfolding front first_line parsed_line most_data counted extent_of room is_too_much verdict
returns-clause-plus c = record {
  fetch = refl;
  view = refl;
  language = refl;
  first_space = refl;
  empty_language = refl;
  empty_view = refl;
  attributes = refl;
  blocks = refl;
  entries = refl;
  behind_words = refl;
  two_empty_fields = refl;
  no_data = refl;
  wrong_flag = refl;
  long_flag = refl;
  empty_flag = refl;
  attributes_with_data = refl;
  field_behind_flag = refl;
}

pub returns-clause-sent : goal.returns-clause-sent
unfolding front first_line parsed_line most_data counted extent_of room is_too_much verdict
returns-clause-sent c = record {
  to_period = refl;
  counted = refl;
  to_end = refl;
  to_end_open = refl;
  period_without_lf = refl;
  one_period_more = refl;
  cr_without_lf = refl;
  no_bytes = refl;
  counted_open = refl;
  counted_early = refl;
  leading_zeros = refl;
  six_digits = refl;
  no_digits = refl;
  other_head = refl;
  greatest_count = refl;
  long_count = refl;
  no_head = refl;
  greatest_head = refl;
  long_head = refl;
}

pub returns-clause-much : goal.returns-clause-much
unfolding front first_line parsed_line most_data counted extent_of room is_too_much verdict
returns-clause-much c = record {
  most_lines = refl;
  too_many_lines = refl;
  last_period = refl;
  late_period = refl;
  too_much_to_end = refl;
}
