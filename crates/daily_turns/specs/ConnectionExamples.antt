-- Worked examples of what a session does in a turn.
use Rattle.std.specs.Prelude.{◌≡◌, true, false, [], codes, Some, None}
use Rattle.group_world.specs.declared.event.Outcome.TheVariants as outcomes
use Rattle.group_world.specs.declared.fault.HubFault.TheVariants as faults
use Rattle.daily_turns.specs.declared.ready_connection.Ending.TheVariants.{Served, Full, Failed, Cut}
use Rattle.daily_turns.specs.declared.ready_connection.ConnectionStage.TheVariants.{Listening, Waiting, Replying, Leaving, Closed}
use Rattle.daily_turns.specs.ReadyConnections.{at, leaving, acts, has_left, ending_of, joined_state, heard_state, learned_state, drawn_state, is_held}

pub record ConnectionExamples : Type 0 where
  pub joins : joined_state (outcomes.Joined 3) ≡ at (Listening 3) [] false
  pub could_not_join : joined_state (outcomes.Fault faults.Failed) ≡ leaving Failed []
  pub a_reply_stands : heard_state 3 outcomes.Ready ≡ at (Replying 3) [] false
  pub early : heard_state 3 outcomes.Finished ≡ leaving Cut []
  pub a_post_that_waits : heard_state 3 outcomes.Waiting ≡ at (Waiting 3) [] false
  pub a_post_that_was_made : learned_state 3 (outcomes.Drawn []) ≡ at (Replying 3) [] false
  pub a_post_that_is_left : learned_state 3 (outcomes.Fault faults.NotReady) ≡ leaving Full (codes "--1\r\n2 Try again later\r\n.\r\n")
  pub a_post_of_a_failed_hub : learned_state 3 (outcomes.Fault faults.Failed) ≡ leaving Failed []
  pub too_many_wait : heard_state 3 (outcomes.Fault faults.Crowded) ≡ leaving Full (codes "--1\r\n2 Try again later\r\n.\r\n")
  pub waits_for_others : acts (Waiting 3) ≡ false
  pub no_room : heard_state 3 (outcomes.Fault (faults.Full 9 4)) ≡ leaving Full (codes "--1\r\n2 Try again later\r\n.\r\n")
  pub no_memory : heard_state 3 (outcomes.Fault faults.Memory) ≡ leaving Failed []
  pub to_be_sent : drawn_state 3 (outcomes.Drawn (codes "Hello")) (codes "Hello") ≡ at (Replying 3) (codes "Hello") false
  pub all_drawn : drawn_state 3 outcomes.Finished [] ≡ leaving Served []
  pub replies : has_left (Replying 3) ≡ false
  pub leaves : has_left (Leaving Full) ≡ true
  pub ended : ending_of (Closed Served) ≡ Some Served
  pub not_closed : ending_of (Leaving Served) ≡ None
  pub held_back : is_held (codes "/sign") [] ≡ true
  pub passed_on : is_held (codes "/sign") (codes "/sign") ≡ false
  pub no_more : is_held [] [] ≡ false
