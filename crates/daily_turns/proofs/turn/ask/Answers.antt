use Rattle.std.proofs.Common.{refl}
use Rattle.group_world.specs.Outcomes.{draw_outcome}
use Rattle.group_world.specs.declared.event.Event.TheVariants.{Draw}
use Rattle.turns.proofs.Runnings.{run_one}
use Rattle.daily_turns.proofs.ConnectionsMade.{learned_well, learned_fault}
use Rattle.daily_turns.proofs.turn.ask.Goals as goal

pub returns-in-Ok-clause-run : goal.returns-in-Ok-clause-run
returns-in-Ok-clause-run g c = run_one _ _ _ _ g.met.S.SiteKeeper.crash_states_represent _ _ (Draw c.args.id 0) (draw_outcome c.draw.result c.draw.new.out) _ _ _ c.draw.ensures.call refl
    (learned_well c.args.id c.draw.result c.in-Ok.field-0 c.draw.new.out _ c.draw.auto.out c.in-Ok.is c.become_stage.ensures.state)

pub returns-in-Err-clause-run : goal.returns-in-Err-clause-run
returns-in-Err-clause-run g c = run_one _ _ _ _ g.met.S.SiteKeeper.crash_states_represent _ _ (Draw c.args.id 0) (draw_outcome c.draw.result c.draw.new.out) _ _ _ c.draw.ensures.call refl
    (learned_fault c.args.id c.draw.result c.in-Err.fault c.draw.new.out _ c.draw.auto.out c.in-Err.is c.refused.ensures.state)
