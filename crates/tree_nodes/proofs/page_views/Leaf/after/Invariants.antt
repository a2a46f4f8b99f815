use Rattle.std.proofs.Common.{◌≡◌}
use Rattle.page_store.specs.Batch.{pair_after}
use Rattle.tree_nodes.specs.PageViews.{pairs_in}
use Rattle.tree_nodes.proofs.page_views.Leaf.after.Given as goal

abbrev pub invariant-loop-here : goal.invariant-loop-here
invariant-loop-here l = pair_after (pairs_in l.left.count l.left.entries.now) l.key ≡ pair_after (pairs_in l.self.count l.self.entries.now) l.key

abbrev pub decreases-loop-here : goal.decreases-loop-here
decreases-loop-here l = l.left.count
