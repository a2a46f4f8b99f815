use Rattle.std.proofs.Common.{refl}
use Rattle.std.specs.Fmt.{digits}
use Rattle.text_writer.specs.Errors.{plus_error, words_of}
use Rattle.daily_turns.proofs.laws.worked_examples.Goals as goal

pub returns : goal.returns
unfolding plus_error words_of digits
returns c = record {
  joins = refl;
  could_not_join = refl;
  a_reply_stands = refl;
  early = refl;
  a_post_that_waits = refl;
  a_post_that_was_made = refl;
  a_post_that_is_left = refl;
  a_post_of_a_failed_hub = refl;
  too_many_wait = refl;
  waits_for_others = refl;
  no_room = refl;
  no_memory = refl;
  to_be_sent = refl;
  all_drawn = refl;
  replies = refl;
  leaves = refl;
  ended = refl;
  not_closed = refl;
  held_back = refl;
  passed_on = refl;
  no_more = refl;
}
