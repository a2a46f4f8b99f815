use Rattle.std.proofs.Common.{refl}
use Rattle.group_world.specs.Outcomes.{join_outcome}
use Rattle.group_world.specs.declared.event.Event.TheVariants.{Join}
use Rattle.turns.proofs.Runnings.{run_one}
use Rattle.daily_turns.proofs.ConnectionsMade.{joined_at}
use Rattle.daily_turns.proofs.turn.join.Goals as goal

pub returns : goal.returns
returns g c = run_one _ _ _ _ g.met.S.SiteKeeper.crash_states_represent _ _ Join (join_outcome c.join.result) _ _ _ c.join.ensures.call refl
    (record { outcome = join_outcome c.join.result; events_are = refl; outcomes_are = refl; wire_is = refl; adapter_is = c.new.ensures; state_is = joined_at c.join.result c.joined-stage.result c.clear.new.self.items c.joined-stage.ensures c.clear.ensures })
