use Rattle.std.proofs.Common.{◌≡◌, ◌∙◌, ◌+◌, ◌-◌, ◌++◌, ◌∷◌, [], sym, ap, take, drop, length, rules, arith, subst, length-append}
use Rattle.std.proofs.lemmas.List.{map-id}
use Rattle.std.specs.Prelude.{List}
use Rattle.std.proofs.lemmas.Iterator.Adapters.{YieldsList-from_vec}
use Rattle.std.proofs.lemmas.Iterator.Consumers.{YieldsList-turn, YieldsList-so_far}
use Rattle.common_types.specs.CrashStates.{AddsOnly}
use Rattle.change_file.specs.declared.fault.FileChange.{FileChange}
use Rattle.change_file.specs.Applied.{RepresentsFront}
use Rattle.change_file.proofs.Lists.{parts_at}
use Rattle.change_file.proofs.Fronts.{take_front, stopped, earlier_stay, crash_more, crash_refused, goes_on, counts_stop, seen_on}
use Rattle.change_file.proofs.applying.apply_changes.Goals as goal

-- the changes are those that were made, the one in hand, and those behind it
parts : (g : _) (c : goal.After-drop-change-iterator g) → c.args.changes.items ≡ c.loop-change.yielded ++ c.in-Some.change ∷ drop (length c.loop-change.yielded + 1) c.args.changes.items
parts g c =
    let all = YieldsList-from_vec {s = c.into_iter-change-iterator.result} c.args.changes.items (search rules) (search rules) in
    let t = YieldsList-turn all c.loop-change.yielded _ c.loop-change.yielded_by _ c.next.new.self c.in-Some.change c.in-Some.is c.next.ensures.steps in
    let s = YieldsList-so_far all c.loop-change.yielded _ c.loop-change.yielded_by in
    parts_at c.args.changes.items c.loop-change.yielded c.in-Some.change (sym (map-id c.loop-change.yielded) ∙ s) t.0 t.1

pub returns-in-Err-clause-stopped : goal.returns-in-Err-clause-stopped
returns-in-Err-clause-stopped g c =
    let is =
    stopped g.S.SiteKeeper.site_state g.S.SiteKeeper.lacks g.S.SiteKeeper.crash_states g.S.SiteKeeper.represents c.args.site.now c.loop-change.site c.apply_one.new.site c.args.changes.items c.loop-change.yielded c.in-Some.change
    (drop (length c.loop-change.yielded + 1) c.args.changes.items) c.args.now (c.loop-change.number + 1) c.in-Err.fault (parts g c) (omega (arith, c.loop-change.invariant.counted)) c.loop-change.invariant.so_far c.in-Err.ensures.stop in
    record {
      stopped = is;
      kept = earlier_stay g.S.SiteKeeper.site_state g.S.SiteKeeper.lacks g.S.SiteKeeper.crash_states g.S.SiteKeeper.represents c.args.site.now c.apply_one.new.site c.args.changes.items c.args.now (c.loop-change.number + 1) c.in-Err.fault is;
      counts = counts_stop g.S.SiteKeeper.site_state g.S.SiteKeeper.lacks g.S.SiteKeeper.crash_states g.S.SiteKeeper.represents c.args.site.now c.loop-change.site c.apply_one.new.site c.loop-change.yielded c.args.now c.in-Err.fault c.loop-change.invariant.so_far c.in-Err.ensures.counts_fault;
    }

pub returns-in-Err-clause-at_crash : goal.returns-in-Err-clause-at_crash
returns-in-Err-clause-at_crash g c =
    record {
      at_crash = λ honest usable.
          subst (λ (l : List FileChange). AddsOnly (g.S.SiteKeeper.crash_states c.args.site.now) (g.S.SiteKeeper.crash_states c.apply_one.new.site) (RepresentsFront g.S.SiteKeeper.represents (g.S.SiteKeeper.site_state c.args.site.now).site l c.args.now)) (sym (parts g c))
          (crash_more g.S.SiteKeeper.site_state g.S.SiteKeeper.lacks g.S.SiteKeeper.crash_states g.S.SiteKeeper.represents c.args.site.now c.loop-change.site c.apply_one.new.site c.loop-change.yielded c.in-Some.change
          (drop (length c.loop-change.yielded + 1) c.args.changes.items) c.args.now c.loop-change.invariant.so_far c.in-Err.ensures.at_crash honest usable);
      at_crash_when_refused = λ honest usable still.
          let place : c.loop-change.number + 1 - 1 ≡ length c.loop-change.yielded = omega (arith, c.loop-change.invariant.counted) in
          let front : take (c.loop-change.number + 1 - 1) c.args.changes.items ≡ c.loop-change.yielded = ap (take (c.loop-change.number + 1 - 1)) (parts g c) ∙ take_front c.loop-change.yielded _ (c.loop-change.number + 1 - 1) place in
          subst (λ (l : List FileChange). AddsOnly (g.S.SiteKeeper.crash_states c.args.site.now) (g.S.SiteKeeper.crash_states c.apply_one.new.site) (RepresentsFront g.S.SiteKeeper.represents (g.S.SiteKeeper.site_state c.args.site.now).site l c.args.now)) (sym front)
          (crash_refused g.S.SiteKeeper.site_state g.S.SiteKeeper.lacks g.S.SiteKeeper.crash_states g.S.SiteKeeper.represents c.args.site.now c.loop-change.site c.apply_one.new.site c.loop-change.yielded c.args.now c.loop-change.invariant.so_far
          (λ h. c.in-Err.ensures.no_new_crash_state h still) honest usable);
    }

pub loop-change-preserved : goal.loop-change-preserved
loop-change-preserved g c = record {
  so_far = goes_on g.S.SiteKeeper.site_state g.S.SiteKeeper.lacks g.S.SiteKeeper.crash_states g.S.SiteKeeper.represents c.args.site.now c.loop-change.site c.apply_one.new.site c.loop-change.yielded c.in-Some.change c.args.now c.loop-change.invariant.so_far
      (λ honest. search (rules, c.apply_one.ensures.done honest)) (search rules) c.apply_one.ensures.tried.tried c.apply_one.ensures.at_crash c.apply_one.ensures.tried.no_new_crash_state_when_closed (search (rules, c.apply_one.ensures.counts));
  counted = omega (arith, c.loop-change.invariant.counted, length-append c.loop-change.yielded (c.in-Some.change ∷ []));
  seen = seen_on _ _ _ (length c.loop-change.yielded) _ _ _ c.loop-change.invariant.seen c.made.ensures (omega (arith, c.loop-change.invariant.counted)) (length-append c.loop-change.yielded (c.in-Some.change ∷ []));
}
