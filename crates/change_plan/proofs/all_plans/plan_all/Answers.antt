use Rattle.std.proofs.Common.{rules, arith, ◌≡◌, ◌∷◌, ◌++◌, ◌≤◌, [], ℕ, length, refl, sym, ap, subst, ◌∙◌, append_assoc}
use Rattle.std.specs.Prelude.{List, Option, IfSome, ◌<◌}
use Rattle.std.proofs.lemmas.Grind.{common_steps}
use Rattle.host_types.specs.AllChanges.{Changes}
use Rattle.change_plan.proofs.PlansOfAll.{one_more, port_last, fit_both}
use Rattle.change_plan.proofs.all_plans.plan_all.Goals as goal

pub loop-alloc-preserved : goal.loop-alloc-preserved
loop-alloc-preserved g c =
    let L = g.L.ItemLookup in
    let met = g.met.L.ItemLookup in
    let inv = c.loop-alloc.invariant in
    let change = c.remove-change.result.0 in
    let now = c.remove-change.result.1 in
    let left = c.remove-change.new.self.items in
    let all = c.args.changes.items in
    let old = c.args.lookup.now in
    let mid = c.loop-alloc.lookup in
    let is : c.loop-alloc.rest.items ≡ (change, now) ∷ left = grind (arith, common_steps, rules) in
    let early : now ≤ 253402300799 = subst (λ (n : ℕ). n ≤ 253402300799) c.seconds.ensures.value c.seconds.ensures.range in
    record {
      front = inv.front ++ (change, now) ∷ [];
      parts = inv.parts ∙ ap (λ (l : Changes). inv.front ++ l) is ∙ sym (append_assoc inv.front ((change, now) ∷ []) left);
      counted = omega (arith, inv.counted, ap length is);
      fit = fit_both L.fits c.in_ok-plan.plan.replacements.items c.loop-alloc.plan.replacements.items c.in-Ok.next.replacements.items c.in_ok-plan.ensures.replacements inv.fit c.in-Ok.ensures.fit;
      port = subst (λ (h : Option (List ℕ × ℕ)). IfSome h (λ name. 0 < name.1)) (sym c.in_ok-plan.ensures.host) (port_last c.loop-alloc.plan.host c.in-Ok.next.host inv.port c.in-Ok.ensures.port);
      reads_only = met.reads_again old mid c.plan_ahead.new.lookup inv.reads_only c.in-Ok.ensures.reads_only;
      so_far = λ s shown.
          let before = inv.so_far s shown in
          one_more c.changes_keep_sites_valid.ensures.changed s all inv.front c.loop-alloc.rest.items left c.loop-alloc.place c.loop-alloc.plan c.in-Ok.next c.in_ok-plan.plan change now c.valid_names.ensures early is
          c.in_ok-plan.ensures.replacements c.in_ok-plan.ensures.host c.in_ok-plan.ensures.admin before
          (c.in-Ok.ensures.plan _ (s, (met.shows_still old mid s inv.reads_only shown.0, shown.1), refl, before.valid));
    }
