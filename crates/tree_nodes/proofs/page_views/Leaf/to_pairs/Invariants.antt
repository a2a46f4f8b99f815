use Rattle.std.proofs.Common.{◌≡◌, ◌++◌}
use Rattle.tree_nodes.specs.PageViews.{pairs_in}
use Rattle.tree_nodes.proofs.page_views.Leaf.to_pairs.Given as goal

abbrev pub invariant-loop-key : goal.invariant-loop-key
invariant-loop-key l = l.pairs.items ++ pairs_in l.left.count l.left.entries.now ≡ pairs_in l.self.count l.self.entries.now

abbrev pub decreases-loop-key : goal.decreases-loop-key
decreases-loop-key l = l.left.count
