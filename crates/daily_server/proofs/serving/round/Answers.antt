use Rattle.std.proofs.Common.{refl}
use Rattle.turns.proofs.Runnings.{run_both}
use Rattle.daily_server.proofs.serving.round.Goals as goal

pub returns : goal.returns
returns g c = run_both _ _ _ _ g.met.S.SiteKeeper.crash_states_represent _ _ _ _ _ _ _ _ _ c.clients_turns-crowd.ensures c.turn.ensures
    (λ es fs os ps p q. record {
      turn_events = es;
      turn_outcomes = os;
      office_events = fs;
      office_outcomes = ps;
      served = p;
      office = q;
      events_are = refl;
      outcomes_are = refl;
    })
