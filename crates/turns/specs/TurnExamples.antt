-- Worked examples of what a session does in a turn.
use Rattle.std.specs.Prelude.{◌≡◌, true, false, [], ◌∷◌, codes}
use Rattle.group_world.specs.declared.event.Event.TheVariants.{Join, Bytes, End, Draw, Flush}
use Rattle.group_world.specs.declared.event.Outcome.TheVariants as outcomes
use Rattle.group_world.specs.declared.fault.HubFault.TheVariants.{Full, Crowded, NotReady, Memory, Failed}
use Rattle.turns.specs.Runs.{moments}
use Rattle.turns.specs.Turns.{heard_event, heard_stage, heard_reply, learned_stage, replied_stage, joined_stage}
use Rattle.turns.specs.declared.connection.Stage.TheVariants.{Waiting, Replying, Served, Left}

pub record TurnExamples : Type 0 where
  pub a_piece : heard_event 3 (codes "/ab") 5 ≡ Bytes 3 (codes "/ab") 5
  pub the_end : heard_event 3 [] 5 ≡ End 3 5
  pub no_room : heard_reply (outcomes.Fault (Full 9 4)) ≡ codes "--1\r\n2 Try again later\r\n.\r\n"
  pub no_memory : heard_reply (outcomes.Fault Memory) ≡ []
  pub a_reply_stands : heard_stage 3 outcomes.Ready ≡ Replying 3
  pub early : heard_stage 3 outcomes.Finished ≡ Left
  pub a_post_that_waits : heard_stage 3 outcomes.Waiting ≡ Waiting 3
  pub a_post_that_was_made : learned_stage 3 (outcomes.Drawn []) ≡ Replying 3
  pub a_post_that_is_left : learned_stage 3 (outcomes.Fault NotReady) ≡ Left
  pub left_is_told : heard_reply (outcomes.Fault NotReady) ≡ codes "--1\r\n2 Try again later\r\n.\r\n"
  pub too_many_wait : heard_reply (outcomes.Fault Crowded) ≡ codes "--1\r\n2 Try again later\r\n.\r\n"
  pub a_hub_that_failed : heard_reply (outcomes.Fault Failed) ≡ []
  pub goes_on : replied_stage 3 (outcomes.Drawn (codes "Hello")) true ≡ Replying 3
  pub not_taken : replied_stage 3 (outcomes.Drawn (codes "Hello")) false ≡ Left
  pub all_drawn : replied_stage 3 outcomes.Finished true ≡ Served
  pub could_not_join : joined_stage (outcomes.Fault Failed) ≡ Left
  pub moments_of_events : moments (Join ∷ Bytes 1 [] 5 ∷ Draw 1 512 ∷ End 2 7 ∷ []) ≡ 5 ∷ 7 ∷ []
  pub a_flush_has_no_moment : moments (Bytes 1 [] 5 ∷ Flush ∷ End 2 7 ∷ []) ≡ 5 ∷ 7 ∷ []
