use Rattle.std.proofs.Common.{refl}
use Rattle.group_world.specs.Outcomes.{draw_outcome}
use Rattle.group_world.specs.declared.event.Event.TheVariants.{Draw}
use Rattle.turns.proofs.Runnings.{run_one}
use Rattle.turns.proofs.TurnsMade.{learned_well, learned_fault}
use Rattle.turns.proofs.turn.ask.Goals as goal

pub returns-in-Ok : goal.returns-in-Ok
returns-in-Ok g c = run_one _ _ _ _ g.met.S.SiteKeeper.crash_states_represent _ _ (Draw c.args.id 0) (draw_outcome c.draw.result c.draw.new.out) _ _ _ c.draw.ensures.call refl
    (learned_well c.args.id _ c.draw.result c.in-Ok.field-0 c.draw.new.out c.draw.auto.out c.in-Ok.is)

pub returns-in-Err : goal.returns-in-Err
returns-in-Err g c = run_one _ _ _ _ g.met.S.SiteKeeper.crash_states_represent _ _ (Draw c.args.id 0) (draw_outcome c.draw.result c.draw.new.out) _ _ _ c.draw.ensures.call refl
    (learned_fault c.args.id _ _ c.draw.result c.in-Err.fault c.draw.new.out c.draw.auto.out c.in-Err.is c.refused.ensures)
