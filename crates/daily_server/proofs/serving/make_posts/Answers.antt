use Rattle.std.proofs.Common.{refl}
use Rattle.group_world.specs.Outcomes.{flush_outcome}
use Rattle.group_world.specs.declared.event.Event.TheVariants.{Flush}
use Rattle.turns.specs.Turns.{IsFlushed}
use Rattle.turns.proofs.Runnings.{run_one, run_both}
use Rattle.turns.proofs.TurnsMade.{both_made, flush_made}
use Rattle.daily_server.proofs.serving.make_posts.Goals as goal

pub returns-clause-run : goal.returns-clause-run
returns-clause-run g c = run_both _ _ _ _ g.met.S.SiteKeeper.crash_states_represent _ _ _ _ _ _ (λ es os. IsFlushed c.args.clients.now es os c.args.clients.now) _ _
    (run_one _ _ _ _ g.met.S.SiteKeeper.crash_states_represent _ _ Flush (flush_outcome c.flush.result) _ _ _ c.flush.ensures refl (flush_made _ _)) c.learn_all.ensures.run (λ es fs os ps p q. both_made _ _ _ _ _ es fs os ps p q)
