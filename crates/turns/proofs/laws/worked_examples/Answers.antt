use Rattle.std.proofs.Common.{refl}
use Rattle.std.specs.Fmt.{digits}
use Rattle.text_writer.specs.Errors.{plus_error, words_of}
use Rattle.turns.proofs.laws.worked_examples.Goals as goal

pub returns : goal.returns
unfolding plus_error words_of digits
returns c = record {
  a_piece = refl;
  the_end = refl;
  no_room = refl;
  no_memory = refl;
  a_reply_stands = refl;
  early = refl;
  a_post_that_waits = refl;
  a_post_that_was_made = refl;
  a_post_that_is_left = refl;
  left_is_told = refl;
  too_many_wait = refl;
  a_hub_that_failed = refl;
  goes_on = refl;
  not_taken = refl;
  all_drawn = refl;
  could_not_join = refl;
  moments_of_events = refl;
  a_flush_has_no_moment = refl;
}
