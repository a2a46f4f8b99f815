use Rattle.turns.proofs.Runnings.{run_both, untold}
use Rattle.turns.proofs.AllClosed.{serves_closed}
use Rattle.turns.proofs.TurnsMade.{both_made}
use Rattle.turns.proofs.turns.take_turns.Goals as goal

pub returns-clause-serves : goal.returns-clause-serves
returns-clause-serves g c = run_both _ _ _ _ g.met.S.SiteKeeper.crash_states_represent _ _ _ _ _ _ _ _ _ (untold _ _ _ _ _ c.join_all.ensures)
    (run_both _ _ _ _ g.met.S.SiteKeeper.crash_states_represent _ _ _ _ _ _ _ _ _ c.pass_on.ensures (untold _ _ _ _ _ c.end_all.ensures) (λ es fs os ps p q. both_made _ _ _ _ _ es fs os ps p q))
    (λ es fs os ps p q. both_made _ _ _ _ _ es fs os ps p q)

pub returns-clause-closed : goal.returns-clause-closed
returns-clause-closed g c = let run = returns-clause-serves g c in serves_closed _ _ _ run.events run.outcomes run.holds
