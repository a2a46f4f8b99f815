use Rattle.std.proofs.Common.{refl, sym, ap, subst, ◌∙◌, arith}
use Rattle.mio.specs.Events.{items}
use Rattle.turns.proofs.Runnings.{run_none, run_both, run_as}
use Rattle.daily_server.specs.Logged.{IsLogged}
use Rattle.daily_server.specs.Offices.{calls_office}
use Rattle.daily_server.specs.Readings.{seconds_of}
use Rattle.daily_server.specs.Rounds.{AllHadTurns, none, more}
use Rattle.daily_server.specs.DailyClients.{HasWaited, HasNotWaited, patience}
use Rattle.daily_server.proofs.Rounds.{wait_failed}
use Rattle.daily_server.proofs.serving.serve_in_hub.Goals as goal

pub loop-round-init : goal.loop-round-init
loop-round-init g c = run_none _ _ _ _ g.met.S.SiteKeeper.crash_states_represent _ _ _ (rw c.new-written.ensures (none _))

pub loop-round-preserved : goal.loop-round-preserved
loop-round-preserved g c =
    let events = items c.wait.new.self.listener.events in
    let called_is = c.in_ok-called.ensures.called ∙ ap (λ pace. calls_office (patience pace c.loop-round.service) events) c.pace.ensures in
    run_both _ _ _ _ g.met.S.SiteKeeper.crash_states_represent _ _ _ _ _ _ _ _ _ c.loop-round.invariant c.round-crowd.ensures
    (λ es fs os ps p q. more _ _ _ _ es fs os ps p (record {
      called = events;
      reading = c.seconds-now.ensures.0;
      read = c.seconds-now.ensures.1;
      waited = c.wait.new.self;
      turned = c.round-crowd.new.service;
      crowd = c.round-crowd.result.items;
      given_before = _;
      given_now = _;
      wait = subst (λ pace. HasWaited pace events c.loop-round.service c.wait.new.self) c.pace.ensures c.in_ok-called.ensures.woken;
      turns = subst (λ called. AllHadTurns g.O.Office.works c.args.terms called (seconds_of c.seconds-now.ensures.0) (c.wait.new.self, c.loop-round.office) fs ps (c.round-crowd.new.service, c.round-crowd.new.office) c.round-crowd.result.items)
          called_is (rw (← c.seconds-now.ensures.2) q);
      seen_off = c.see_off.ensures.gone;
      logged = subst (λ crowd. IsLogged g.L.Write.contents c.args.terms.log c.loop-round.moments.given.moments c.see_off.new.moments.given.moments crowd c.round-crowd.new.service.clients.items (c.loop-round.log, c.loop-round.written.calls) (c.see_off.new.log, c.see_off.new.written.calls))
          c.as_slice.ensures.value c.see_off.ensures.logged;
    }))

pub returns-then-not-is_usable : goal.returns-then-not-is_usable
returns-then-not-is_usable g c = run_as _ _ _ _ _ _ _ c.loop-round.invariant (λ es os p. record {
  rounds = c.loop-round._round;
  last = c.loop-round.service;
  written = c.loop-round.written.calls;
  had = p;
  ends = (sym c.is_usable.ensures ∙ c.if-not-is_usable.true, refl);
})

pub returns-in_err-called : goal.returns-in_err-called
returns-in_err-called g c = run_as _ _ _ _ _ _ _ c.loop-round.invariant
    (λ es os p. wait_failed g.L.Write.contents g.O.Office.lets_wait g.O.Office.works c.args.terms c.from_residual.result _ _ c.loop-round._round _ c.loop-round.service c.wait.new.self _ c.loop-round.log c.loop-round.written.calls _ c.loop-round.watch.read.readings _ c.loop-round.office es os c.from_residual.ensures.1 c.in_err-called.ensures.fault (sym c.is_usable.ensures ∙ c.if-not-is_usable.false) p (subst (λ pace. HasNotWaited pace c.loop-round.service c.wait.new.self) c.pace.ensures c.in_err-called.ensures.not_waited))

pub returns : goal.returns
returns g c = run_as _ _ _ _ _ _ _ c.loop-round.invariant (λ es os p. record {
  rounds = c.loop-round._round;
  last = c.loop-round.service;
  written = c.loop-round.written.calls;
  had = p;
  ends = (omega (arith, c.loop-round-test.false), refl);
})
