use Rattle.std.proofs.Common.{◌∙◌, refl}
use Rattle.turns.proofs.Runnings.{run_both, untold}
use Rattle.turns.proofs.TurnsMade.{both_made}
use Rattle.daily_server.proofs.NobodyWaits.{nobody_waits}
use Rattle.daily_server.proofs.serving.serve_all.Goals as goal

pub returns-clause-run : goal.returns-clause-run
returns-clause-run g c = run_both _ _ _ _ g.met.S.SiteKeeper.crash_states_represent _ _ _ _ _ _ _ _ _ c.give_turns.ensures.run
    (untold _ _ _ _ _ (run_both _ _ _ _ g.met.S.SiteKeeper.crash_states_represent _ _ _ _ _ _ _ _ _ c.make_posts.ensures.run c.dismiss_late.ensures.run (λ es fs os ps p q. both_made _ _ _ _ _ es fs os ps p q)))
    (λ es fs os ps p q. both_made _ _ _ (c.give_turns.new.clients, c.give_turns.new.posts.items) _ es fs os ps p (q, refl))

pub returns-clause-same_who : goal.returns-clause-same_who
returns-clause-same_who g c = c.dismiss_late.ensures.same_who ∙ c.make_posts.ensures.same_who ∙ c.give_turns.ensures.same_who

pub returns-clause-nobody_waits : goal.returns-clause-nobody_waits
returns-clause-nobody_waits g c = nobody_waits c.args.now _ _ _ _ _ _ _ c.make_posts.ensures.run.holds c.dismiss_late.ensures.run.holds
