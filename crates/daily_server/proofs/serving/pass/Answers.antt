use Rattle.std.proofs.Common.{refl, arith}
use Rattle.turns.proofs.Runnings.{run_none, run_both}
use Rattle.daily_server.proofs.PassesBeside.{beside_none, beside_next}
use Rattle.daily_server.proofs.SameClients.{same_clients}
use Rattle.daily_server.proofs.serving.pass.Goals as goal

pub loop-client-init : goal.loop-client-init
loop-client-init g c = record {
  run = run_none _ _ _ _ g.met.S.SiteKeeper.crash_states_represent _ _ _ (beside_none _ _);
  same_who = refl;
}

pub loop-client-preserved : goal.loop-client-preserved
loop-client-preserved g c = record {
  run = run_both _ _ _ _ g.met.S.SiteKeeper.crash_states_represent _ _ _ _ _ _ _ _ _ c.loop-client.invariant.run c.take_limited_turn.ensures.run
      (λ es fs os ps p q. beside_next _ c.loop-client.client-index _ (c.loop-client.clients, c.loop-client.posts.items) c.client-item.result c.take_limited_turn.new.client _ es fs os ps p (omega (arith, c.loop-client-test.true, c.loop-client.auto.clients)) c.client-item.is q);
  same_who = same_clients _ c.loop-client.clients c.loop-client.client-index c.client-item.result c.take_limited_turn.new.client c.loop-client.invariant.same_who c.take_limited_turn.ensures.who;
}
