use Rattle.std.proofs.Common.{refl}
use Rattle.group_world.specs.Outcomes.{join_outcome}
use Rattle.group_world.specs.declared.event.Event.TheVariants.{Join}
use Rattle.turns.specs.Turns.{Joins}
use Rattle.turns.proofs.Runnings.{run_none, run_one}
use Rattle.turns.proofs.TurnsMade.{joined_well, joined_not, does_nothing, joins_rest}
use Rattle.turns.proofs.turn.join.Goals as goal

pub returns-in-Ok : goal.returns-in-Ok
returns-in-Ok g c = run_one _ _ _ _ g.met.S.SiteKeeper.crash_states_represent _ _ Join (join_outcome c.join.result) _ _ _ c.join.ensures.call refl
    (joined_well g.W.Wire.calls _ _ c.join.result c.in-Ok.id c.in-New.is c.in-Ok.is refl refl)

pub returns-in-Err : goal.returns-in-Err
returns-in-Err g c = run_one _ _ _ _ g.met.S.SiteKeeper.crash_states_represent _ _ Join (join_outcome c.join.result) _ _ _ c.join.ensures.call refl
    (joined_not g.W.Wire.calls _ _ c.join.result c.in-Err.field-0 c.in-New.is c.in-Err.is c.close.ensures refl)

pub returns-in_default : goal.returns-in_default
returns-in_default g c = run_none _ _ _ _ g.met.S.SiteKeeper.crash_states_represent _ _ _ (does_nothing g.W.Wire.calls _ _ Joins refl (joins_rest _ c.in_default.not-New))
