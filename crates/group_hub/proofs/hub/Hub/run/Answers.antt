use Rattle.std.proofs.Common.{◌≡◌, ◌+◌, ◌++◌, [], ◌∷◌, take, arith, ap, sym, ◌∙◌}
use Rattle.std.proofs.lemmas.List.{take_more, take_all}
use Rattle.std.proofs.lemmas.Grind.{common_steps}
use Rattle.group_hub.proofs.CallLaws.{calls_more, calls_honest, hub_run}
use Rattle.group_hub.proofs.Rooms.{rooms_more}
use Rattle.group_hub.proofs.hub.Hub.run.Goals as goal

pub loop-at-preserved : goal.loop-at-preserved
loop-at-preserved g c =
    let pushed : c.push.new.self.items ≡ c.loop-at.outcomes.items ++ c.step.result ∷ [] = rw c.unwrap.ensures at c.push.ensures.items in
    let events : take (c.loop-at.at + 1) c.args.events.now ≡ take c.loop-at.at c.args.events.now ++ c.index-events-at.result ∷ [] =
    take_more c.args.events.now c.loop-at.at c.index-events-at.result c.loop-at-test.true ∙ ap (λ e. take c.loop-at.at c.args.events.now ++ e ∷ []) (sym c.index-events-at.is) in
    record {
      calls = rw (pushed, events) (calls_more _ _ _ _ _ _ _ _ _ _ _ _ c.index-events-at.result c.step.result c.loop-at.invariant.calls c.step.ensures);
      acknowledged = rw pushed (grind (arith, common_steps, c.loop-at.invariant.acknowledged));
      place = omega (arith, c.loop-at.invariant.place, c.push.ensures.capacity);
      rooms = rooms_more c.loop-at.rooms.items c.args.events.now c.loop-at.at c.replace-room.new.dest c.loop-at-test.true c.loop-at.invariant.rooms;
    }

pub returns-clause-run : goal.returns-clause-run
returns-clause-run g c = hub_run _ _ _ _ g.met.S.SiteKeeper.crash_states_represent _ _ _ _ (rw c.from.ensures (rw (sym (take_all c.loop-at.at c.args.events.now c.loop-at-test.false)) c.loop-at.invariant.calls))

pub returns-clause-honest : goal.returns-clause-honest
returns-clause-honest g c = calls_honest _ _ _ _ _ _ _ _ _ _ (returns-clause-run g c).calls
