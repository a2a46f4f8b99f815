use Rattle.std.proofs.Common.{◌≡◌, ◌∷◌, map}
use Rattle.page_store.specs.Keys.{rises}
use Rattle.page_store.specs.Pages.{child_key}
use Rattle.tree_nodes.specs.PageViews.{children_in}
use Rattle.tree_nodes.proofs.page_views.Branch.keys_rise.Given as goal

abbrev pub invariant-loop-key : goal.invariant-loop-key
invariant-loop-key l = rises (l.before ∷ map child_key (children_in l.left.count l.left.entries.now)) ≡ rises (map child_key (children_in l.self.count l.self.entries.now))

abbrev pub decreases-loop-key : goal.decreases-loop-key
decreases-loop-key l = l.left.count
