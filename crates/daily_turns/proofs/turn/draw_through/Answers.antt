use Rattle.std.proofs.Common.{ap, sym, subst, ◌≤◌, ◌∙◌, length, refl, Ok}
use Rattle.group_world.specs.Outcomes.{draw_outcome}
use Rattle.group_world.specs.declared.event.Event.TheVariants.{Draw}
use Rattle.turns.specs.Turns.{drawn_bytes}
use Rattle.turns.proofs.Runnings.{run_one}
use Rattle.turns.proofs.TurnsMade.{finished_is}
use Rattle.daily_turns.specs.DrawSizes.{draw_size}
use Rattle.daily_turns.specs.ReadyConnections.{drawn_state}
use Rattle.daily_turns.proofs.ConnectionsMade.{drawn_made, drawn_on, room_through, through_adapted}
use Rattle.daily_turns.proofs.turn.draw_through.Goals as goal

pub returns-in-Ok-Bytes-clause-run : goal.returns-in-Ok-Bytes-clause-run
returns-in-Ok-Bytes-clause-run g c =
    let bytes = c.draw.new.self.items in
    run_one _ _ _ _ g.met.S.SiteKeeper.crash_states_represent _ _ (Draw c.args.id draw_size) (draw_outcome c.draw.result bytes) _ _ _ c.draw.ensures.call refl
    (drawn_made c.args.connection.now.adapter c.go_on.new.self.adapter c.args.id draw_size _ _ _ (room_through c.args.connection.now.adapter c.requires) (subst (λ l. length l ≤ draw_size) c.draw.ensures.bytes c.draw.ensures.few) (through_adapted c.args.connection.now.adapter c.go_on.new.self.adapter _ c.requires c.go_on.ensures.adapter) (c.go_on.ensures.state ∙ drawn_on c.args.id _ c.draw.result bytes (c.in-Ok-Bytes.is ∙ ap (λ d. Ok d) c.in-Ok-Bytes.field-0-is) c.draw.ensures.bytes))

pub returns-in-Ok-Finished-clause-run : goal.returns-in-Ok-Finished-clause-run
returns-in-Ok-Finished-clause-run g c =
    let bytes = c.draw.new.self.items in
    run_one _ _ _ _ g.met.S.SiteKeeper.crash_states_represent _ _ (Draw c.args.id draw_size) (draw_outcome c.draw.result bytes) _ _ _ c.draw.ensures.call refl
    (drawn_made c.args.connection.now.adapter c.become_stage.new.self.adapter c.args.id draw_size _ _ _ (room_through c.args.connection.now.adapter c.requires) (subst (λ l. length l ≤ draw_size) c.draw.ensures.bytes c.draw.ensures.few) (through_adapted c.args.connection.now.adapter c.become_stage.new.self.adapter _ c.requires c.become_stage.ensures.adapter) (c.become_stage.ensures.state ∙ ap (λ o. drawn_state c.args.id o (drawn_bytes o)) (sym (finished_is _ _ bytes c.in-Ok-Finished.is c.in-Ok-Finished.field-0-is))))

pub returns-in-Err-clause-run : goal.returns-in-Err-clause-run
returns-in-Err-clause-run g c =
    let bytes = c.draw.new.self.items in
    run_one _ _ _ _ g.met.S.SiteKeeper.crash_states_represent _ _ (Draw c.args.id draw_size) (draw_outcome c.draw.result bytes) _ _ _ c.draw.ensures.call refl
    (drawn_made c.args.connection.now.adapter c.become_stage-in-Err.new.self.adapter c.args.id draw_size _ _ _ (room_through c.args.connection.now.adapter c.requires) (subst (λ l. length l ≤ draw_size) c.draw.ensures.bytes c.draw.ensures.few) (through_adapted c.args.connection.now.adapter c.become_stage-in-Err.new.self.adapter _ c.requires c.become_stage-in-Err.ensures.adapter) (c.become_stage-in-Err.ensures.state ∙ ap (λ r. drawn_state c.args.id (draw_outcome r bytes) (drawn_bytes (draw_outcome r bytes))) (sym c.in-Err.is)))
