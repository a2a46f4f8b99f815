-- Worked examples of a word of the log, and of how long a client may stay.
use Rattle.std.specs.Prelude.{◌≡◌, true, false, codes}
use Rattle.daily_turns.specs.declared.ready_connection.Ending.TheVariants.{Served, Crowd}
use Rattle.daily_turns.specs.declared.ready_connection.ConnectionStage.TheVariants.{Listening, Waiting, Replying, Leaving}
use Rattle.daily_server.specs.Limits.{is_over, longest_stay}
use Rattle.daily_server.specs.Lines.{ending_word}

pub record ClientExamples : Type 0 where
  pub word : ending_word Served ≡ codes "served"
  pub turned_away : ending_word Crowd ≡ codes "crowd"
  pub stays : is_over 600 100 110 139 ≡ false
  pub silent : is_over 600 100 110 140 ≡ true
  pub long : is_over 600 100 699 700 ≡ true
  pub no_line : longest_stay (Listening 3) false ≡ 15
  pub drips_on : is_over 15 100 114 114 ≡ false
  pub drips : is_over 15 100 115 115 ≡ true
  pub not_whole : longest_stay (Listening 3) true ≡ 120
  pub sends_on : is_over 120 100 219 219 ≡ false
  pub sends : is_over 120 100 220 220 ≡ true
  pub post_waits : longest_stay (Waiting 3) true ≡ 600
  pub is_answered : longest_stay (Replying 3) true ≡ 600
  pub has_left : longest_stay (Leaving Served) false ≡ 600
