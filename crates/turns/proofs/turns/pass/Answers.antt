use Rattle.std.proofs.Common.{refl}
use Rattle.group_world.specs.Outcomes.{flush_outcome}
use Rattle.group_world.specs.declared.event.Event.TheVariants.{Flush}
use Rattle.turns.specs.Turns.{IsFlushed}
use Rattle.turns.proofs.Runnings.{run_one, run_both, untold}
use Rattle.turns.proofs.TurnsMade.{both_made, flush_made}
use Rattle.turns.proofs.turns.pass.Goals as goal

pub returns : goal.returns
returns g c = run_both _ _ _ _ g.met.S.SiteKeeper.crash_states_represent _ _ _ _ _ _ _ _ _ c.give_turns.ensures (untold _ _ _ _ _
    (run_both _ _ _ _ g.met.S.SiteKeeper.crash_states_represent _ _ _ _ _ _ (λ es os. IsFlushed c.give_turns.new.connections es os c.give_turns.new.connections) _ _
    (run_one _ _ _ _ g.met.S.SiteKeeper.crash_states_represent _ _ Flush (flush_outcome c.flush.result) _ _ _ c.flush.ensures refl (flush_made _ _)) c.learn_all.ensures (λ es fs os ps p q. both_made _ _ _ _ _ es fs os ps p q)))
    (λ es fs os ps p q. both_made _ _ _ _ _ es fs os ps p q)
