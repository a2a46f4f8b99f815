use Rattle.std.proofs.Common.{refl}
use Rattle.old_clients.specs.AdaptedReply.{adapted_reply}
use Rattle.old_clients.specs.AdaptedRequest.{adapted_request, is_rewritten}
use Rattle.old_clients.proofs.laws.worked_examples.Goals as goal

pub returns-clause-rewritten : goal.returns-clause-rewritten
unfolding adapted_request is_rewritten
returns-clause-rewritten c = record { form = refl; search = refl; line_feed = refl; dollar_in_words = refl; empty_selector = refl; one_period = refl; greatest_line = refl; said = refl }

pub returns-clause-others : goal.returns-clause-others
unfolding adapted_request is_rewritten
returns-clause-others c = record {
  menu = refl;
  no_data = refl;
  blocks = refl;
  no_words = refl;
  plus_part = refl;
  further_field = refl;
  selector_alone = refl;
  second_line = refl;
  not_yet = refl;
  long_line = refl;
  said = refl;
}

pub returns-clause-replies : goal.returns-clause-replies
unfolding adapted_reply
returns-clause-replies c = record {
  post = refl;
  two_lines = refl;
  no_lines = refl;
  plus_error = refl;
  plain_error = refl;
  counted = refl;
  period_in_front = refl;
  empty_line = refl;
  behind_the_end = refl;
  cut_off = refl;
  not_rewritten = refl;
}
