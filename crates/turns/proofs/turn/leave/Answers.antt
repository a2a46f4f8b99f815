use Rattle.std.proofs.Common.{refl}
use Rattle.group_world.specs.Outcomes.{leave_outcome}
use Rattle.group_world.specs.declared.event.Event.TheVariants.{Leave}
use Rattle.turns.proofs.Runnings.{run_one}
use Rattle.turns.proofs.TurnsMade.{left_made}
use Rattle.turns.proofs.turn.leave.Goals as goal

pub returns : goal.returns
returns g c = run_one _ _ _ _ g.met.S.SiteKeeper.crash_states_represent _ _ (Leave c.args.id) (leave_outcome c.leave.result) _ _ _ c.leave.ensures.call refl (left_made c.args.id _ _ _ c.close.ensures)
