use Rattle.std.proofs.Common.{◌≡◌, length}
use Rattle.change_plan.specs.Replacements.{all_replaced, AreInPlace, AreFit}
use Rattle.mem_site.specs.ShortEntries.{HasShortViews}
use Rattle.mem_site.proofs.mem_site.MemSite.replace_in_place.Given as goal

-- what is left makes the same
abbrev pub invariant-loop-rest : goal.invariant-loop-rest
invariant-loop-rest l = record {
  same : all_replaced l.self l.rest.items ≡ all_replaced l.fn.self l.fn.replacements.items;
  in_place : AreInPlace l.self l.rest.items;
  fit : AreFit HasShortViews l.rest.items;
}

abbrev pub decreases-loop-rest : goal.decreases-loop-rest
decreases-loop-rest l = length l.rest.items
