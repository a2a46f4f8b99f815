use Rattle.std.proofs.Common.{[], take, refl, subst, ◌∙◌}
use Rattle.group_world.specs.Outcomes.{draw_outcome}
use Rattle.group_world.specs.declared.event.Event.TheVariants.{Draw}
use Rattle.old_clients.specs.Clients.{HasAnswered}
use Rattle.turns.proofs.Runnings.{run_one}
use Rattle.turns.proofs.TurnsMade.{draws_few}
use Rattle.daily_turns.proofs.ConnectionsMade.{drawn_made, end_adapted, end_follows, fault_adapted, fault_follows, part_adapted, part_follows, room_adapted}
use Rattle.daily_turns.proofs.turn.draw_adapted.Goals as goal

pub returns-in-Ok-Bytes-clause-run : goal.returns-in-Ok-Bytes-clause-run
returns-in-Ok-Bytes-clause-run g c =
    let out = c.draw.new.out in
    let part = c.answer.new.self.items in
    run_one _ _ _ _ g.met.S.SiteKeeper.crash_states_represent _ _ (Draw c.args.id 500) (draw_outcome c.draw.result out) _ _ _ c.draw.ensures.call refl
    (drawn_made c.args.connection.now.adapter c.go_on.new.self.adapter c.args.id 500 _ part _ (room_adapted c.args.connection.now.adapter c.requires) (draws_few 500 c.draw.result out c.draw.auto.out)
    (part_adapted c.args.connection.now.adapter c.answer.new.adapter c.go_on.new.self.adapter c.draw.result _ _ 500 out part c.in-Ok-Bytes.is c.in-Ok-Bytes.field-0-is c.draw.auto.out c.go_on.ensures.adapter
    (subst (λ n. HasAnswered c.args.connection.now.adapter (take n out) part c.answer.new.adapter) c.min.ensures c.answer.ensures))
    (c.go_on.ensures.state ∙ part_follows c.args.id _ c.draw.result _ out part c.in-Ok-Bytes.is c.in-Ok-Bytes.field-0-is))

pub returns-in-Ok-Finished-clause-run : goal.returns-in-Ok-Finished-clause-run
returns-in-Ok-Finished-clause-run g c =
    let out = c.draw.new.out in
    let part = c.finish.new.self.items in
    let left = c.go_on-in-Ok-Finished in
    run_one _ _ _ _ g.met.S.SiteKeeper.crash_states_represent _ _ (Draw c.args.id 500) (draw_outcome c.draw.result out) _ _ _ c.draw.ensures.call refl
    (drawn_made c.args.connection.now.adapter left.new.self.adapter c.args.id 500 _ part _ (room_adapted c.args.connection.now.adapter c.requires) (draws_few 500 c.draw.result out c.draw.auto.out)
    (end_adapted c.args.connection.now.adapter c.finish.new.adapter left.new.self.adapter c.draw.result _ out part c.in-Ok-Finished.is c.in-Ok-Finished.field-0-is left.ensures.adapter c.finish.ensures)
    (left.ensures.state ∙ end_follows c.args.id c.draw.result _ out part c.in-Ok-Finished.is c.in-Ok-Finished.field-0-is))

pub returns-in-Err-clause-run : goal.returns-in-Err-clause-run
returns-in-Err-clause-run g c =
    let out = c.draw.new.out in
    let left = c.become_stage in
    run_one _ _ _ _ g.met.S.SiteKeeper.crash_states_represent _ _ (Draw c.args.id 500) (draw_outcome c.draw.result out) _ _ _ c.draw.ensures.call refl
    (drawn_made c.args.connection.now.adapter left.new.self.adapter c.args.id 500 _ [] _ (room_adapted c.args.connection.now.adapter c.requires) (draws_few 500 c.draw.result out c.draw.auto.out)
    (fault_adapted c.args.connection.now.adapter left.new.self.adapter c.draw.result _ out c.in-Err.is left.ensures.adapter)
    (left.ensures.state ∙ fault_follows c.args.id c.draw.result _ out c.in-Err.is))
