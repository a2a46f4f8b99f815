use Rattle.std.proofs.Common.{map, refl, sym, ap, subst, ◌∙◌, arith}
use Rattle.std.proofs.lemmas.List.{with_items_is}
use Rattle.turns.proofs.Runnings.{run_both, untold}
use Rattle.daily_server.specs.Rounds.{who}
use Rattle.daily_server.specs.DailyClients.{WereServed, NoClientWaits}
use Rattle.daily_server.proofs.serving.clients_turns.Goals as goal

pub returns : goal.returns
returns g c =
    let full = c.admit-crowd.new.service.clients in
    let after = c.serve_all.new.clients in
    let items = with_items_is full after (omega (arith, c.serve_all.auto.clients, c.deref_mut.ensures.len)) in
    run_both _ _ _ _ g.met.S.SiteKeeper.crash_states_represent _ _ _ _ _ _ _ _ _ (untold _ _ _ _ _ c.admit-crowd.ensures) c.serve_all.ensures.run
    (λ es fs os ps p q. record {
      full = c.admit-crowd.new.service;
      join_events = es;
      join_outcomes = os;
      turn_events = fs;
      turn_outcomes = ps;
      let_in = p;
      served = subst (λ clients. WereServed c.args.terms.posts c.args.now (full.items, c.admit-crowd.new.service.posts.items) fs ps (clients, c.serve_all.new.posts.items)) (sym items) (subst (λ clients. WereServed c.args.terms.posts c.args.now (clients, c.admit-crowd.new.service.posts.items) fs ps (after, c.serve_all.new.posts.items)) c.deref_mut.ensures.value q);
      events_are = refl;
      outcomes_are = refl;
      listener = refl;
      may_accept = refl;
      lost = refl;
      nobody_waits = subst NoClientWaits (sym items) c.serve_all.ensures.nobody_waits;
      same_who = ap (map who) items ∙ c.serve_all.ensures.same_who ∙ ap (map who) c.deref_mut.ensures.value;
    })
