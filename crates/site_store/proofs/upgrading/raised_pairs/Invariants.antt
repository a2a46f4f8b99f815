use Rattle.std.proofs.Common.{drop, ◌++◌}
use Rattle.site_records.specs.Layout.{Pairs}
use Rattle.site_store.specs.Opening.{ValuesFit, KeysFit}
use Rattle.site_store.specs.Upgrading.{AreRaised}
use Rattle.site_store.proofs.upgrading.raised_pairs.Given as goal

-- what the rest is raised to comes behind what was raised
abbrev pub invariant-loop-pair : goal.invariant-loop-pair
invariant-loop-pair l = record {
  so_far : (more : Pairs) → AreRaised (drop l.pair-index l.pairs) more → AreRaised l.pairs (l.all.items ++ more);
  keys : KeysFit l.all.items;
  values : ValuesFit l.all.items;
}
