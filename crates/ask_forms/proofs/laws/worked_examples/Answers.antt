use Rattle.std.proofs.Common.{refl}
use Rattle.ask_forms.specs.Post.{post_text, title_of}
use Rattle.ask_forms.proofs.laws.worked_examples.Goals as goal

pub returns-clause-read : goal.returns-clause-read
unfolding post_text title_of
returns-clause-read c = record {
  two_lines = refl;
  no_lines = refl;
  leading_zeros = refl;
  too_few = refl;
  too_many = refl;
  no_count = refl;
  great_count = refl;
  six_digits = refl;
  no_digits = refl;
  nothing_asked = refl;
  nothing_asked_for = refl;
  by_text = refl;
  by_place = refl;
  no_place = refl;
  three_digits = refl;
  no_choice = refl;
  right_word = refl;
  wrong_word = refl;
  wrong_answers_first = refl;
  survey_sent = refl;
}

pub returns-clause-posts : goal.returns-clause-posts
unfolding post_text title_of
returns-clause-posts c = record {
  text = refl;
  title = refl;
  no_lines = refl;
  choice = refl;
  hidden = refl;
  untitled = refl;
  first_shown = refl;
  first_line = refl;
  empty_lines = refl;
  spaces = refl;
  cut = refl;
  survey_text = refl;
}
