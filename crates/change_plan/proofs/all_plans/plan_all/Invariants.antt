use Rattle.std.proofs.Common.{◌≡◌, ◌+◌, ◌<◌, ◌++◌, length}
use Rattle.std.specs.Prelude.{IfSome}
use Rattle.host_types.specs.Site.{Site}
use Rattle.host_types.specs.AllChanges.{Changes}
use Rattle.change_plan.specs.AllPlans.{ShowsValid}
use Rattle.change_plan.specs.Replacements.{AreFit}
use Rattle.change_plan.proofs.PlansOfAll.{IsSoFar}
use Rattle.change_plan.proofs.all_plans.plan_all.Given as goal

-- the changes in front are planned, and those that are left make the rest
abbrev pub invariant-loop-alloc : goal.invariant-loop-alloc
invariant-loop-alloc g l = record {
  front : Changes;
  parts : l.fn.changes.items ≡ front ++ l.rest.items;
  counted : l.place + length l.rest.items ≡ length l.fn.changes.items;
  fit : AreFit g.L.ItemLookup.fits l.plan.replacements.items;
  port : IfSome l.plan.host (λ name. 0 < name.1);
  reads_only : g.L.ItemLookup.reads_only l.fn.lookup l.lookup;
  so_far : (s : Site) → ShowsValid g.L.ItemLookup.shows l.fn.lookup s → IsSoFar s l.fn.changes.items front l.rest.items l.place l.plan;
}

abbrev pub decreases-loop-alloc : goal.decreases-loop-alloc
decreases-loop-alloc g l = length l.rest.items
