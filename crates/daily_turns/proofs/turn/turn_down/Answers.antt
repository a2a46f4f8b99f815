use Rattle.std.proofs.Common.{refl, ◌∙◌, ap, [], ◌∷◌}
use Rattle.group_world.specs.Outcomes.{leave_outcome}
use Rattle.group_world.specs.declared.event.Event.TheVariants.{Leave}
use Rattle.turns.proofs.Runnings.{run_none, run_one}
use Rattle.daily_turns.specs.ReadyConnections.{leaving}
use Rattle.daily_turns.specs.declared.ready_connection.Ending.TheVariants.{Often}
use Rattle.daily_turns.proofs.ConnectionsMade.{later_fits, turned_down, turns_nobody_down}
use Rattle.daily_turns.proofs.turn.turn_down.Goals as goal

pub become_stage-requires : goal.become_stage-requires
become_stage-requires g c = later_fits _ c.try_again_later.ensures

pub returns-in-Waiting : goal.returns-in-Waiting
returns-in-Waiting g c = run_one _ _ _ _ g.met.S.SiteKeeper.crash_states_represent _ _ (Leave c.in-Waiting.session) (leave_outcome c.leave.result) _ _ _ c.leave.ensures.call refl
    (turned_down g.W.ReadyWire.calls c.args.connection.now c.become_stage.new.self c.in-Waiting.session (Leave c.in-Waiting.session ∷ []) (leave_outcome c.leave.result ∷ []) c.in-Waiting.is c.become_stage.ensures.wire c.become_stage.ensures.adapter
    (leave_outcome c.leave.result, refl, c.become_stage.ensures.state ∙ ap (leaving Often) c.try_again_later.ensures))

pub returns-in_default : goal.returns-in_default
returns-in_default g c = run_none _ _ _ _ g.met.S.SiteKeeper.crash_states_represent _ _ _ (turns_nobody_down g.W.ReadyWire.calls c.args.connection.now c.in_default.not-Waiting)
