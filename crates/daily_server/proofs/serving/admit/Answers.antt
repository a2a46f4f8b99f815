use Rattle.std.proofs.Common.{◌≡◌, ◌<◌, length, refl, ap, subst, arith, vec_len}
use Rattle.std.specs.Prelude.{vec_capacity}
use Rattle.turns.proofs.Runnings.{run_none, run_both, run_as}
use Rattle.daily_server.proofs.ComingIn.{IsLettingIn, none_yet, one_more, no_more, all_came}
use Rattle.daily_server.proofs.serving.admit.Goals as goal

pub loop-client-init : goal.loop-client-init
loop-client-init g c = record {
  run = run_none _ _ _ _ g.met.S.SiteKeeper.crash_states_represent _ _ _ (none_yet _ _ _ _ c.new-crowd.ensures);
  turned_away = omega (arith, ap length c.new-crowd.ensures);
}

pub loop-client-preserved : goal.loop-client-preserved
loop-client-preserved g c = record {
  run = run_both _ _ _ _ g.met.S.SiteKeeper.crash_states_represent _ _ _ _ _ _ _ _ _ c.loop-client.invariant.run c.receive.ensures.run
      (λ es fs os ps p q. one_more _ _ _ _ c.loop-client.service c.next.new.self _ c.in-Some.next (vec_len c.next.new.self.clients < vec_capacity c.next.new.self.clients) es fs os ps _ _ (omega (arith, c.in-Some.ensures.came.service, ap vec_len c.in-Some.ensures.clients, c.next.new.self.space))
      c.in-Some.ensures.clients c.in-Some.ensures.came.service c.in-Some.ensures.came.may_accept c.in-Some.ensures.came.lost c.in-Some.ensures.asked refl refl refl c.in-Some.ensures.posts p q);
  turned_away = omega (arith, c.loop-client.invariant.turned_away, c.receive.ensures.few);
}

pub returns-in_default : goal.returns-in_default
returns-in_default g c = run_as _ _ _ _ _ _ _ c.loop-client.invariant.run (λ es os p. no_more _ _ _ _ c.loop-client.service c.next.new.self es os _ p c.loop-client-test.true c.in_default.ensures.clients c.in_default.ensures.posts c.in_default.ensures.asked c.in_default.ensures.unasked)

pub returns : goal.returns
returns g c =
    let all : c.loop-client._client ≡ 32 = omega (arith, c.loop-client-test.false, c.loop-client.auto._client-end) in
    run_as _ _ _ _ _ _ _ c.loop-client.invariant.run (λ es os p. all_came _ _ _ _ es os _ (subst (λ n. IsLettingIn c.args.terms c.args.now n c.args.service.now es os c.loop-client.service c.loop-client.crowd.items) all p))
