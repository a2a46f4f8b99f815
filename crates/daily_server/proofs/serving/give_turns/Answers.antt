use Rattle.std.proofs.Common.{refl, ◌∙◌}
use Rattle.turns.proofs.Runnings.{run_none, run_both}
use Rattle.turns.proofs.TurnsMade.{times_next}
use Rattle.daily_server.specs.DailyClients.{HadPass}
use Rattle.daily_server.proofs.serving.give_turns.Goals as goal

pub loop-pass-init : goal.loop-pass-init
loop-pass-init g c = record {
  run = run_none _ _ _ _ g.met.S.SiteKeeper.crash_states_represent _ _ _ (refl, refl, refl);
  same_who = refl;
}

pub loop-pass-preserved : goal.loop-pass-preserved
loop-pass-preserved g c = record {
  run = run_both _ _ _ _ g.met.S.SiteKeeper.crash_states_represent _ _ _ _ _ _ _ _ _ c.loop-pass.invariant.run c.pass.ensures.run
      (λ es fs os ps p q. times_next c.loop-pass._pass (HadPass c.args.most c.args.now) _ (c.loop-pass.clients, c.loop-pass.posts.items) (c.pass.new.clients, c.pass.new.posts.items) es fs os ps p q);
  same_who = c.pass.ensures.same_who ∙ c.loop-pass.invariant.same_who;
}
