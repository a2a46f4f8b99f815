use Rattle.std.proofs.Common.{◌≡◌}
use Rattle.tree_nodes.specs.NodeView.{others_view}
use Rattle.tree_nodes.specs.PageViews.{children_in}
use Rattle.tree_nodes.specs.Supply.{others_named}
use Rattle.tree_nodes.proofs.NodesRead.{joined_others}
use Rattle.tree_nodes.proofs.page_views.Branch.to_others.Given as goal

abbrev pub invariant-loop-key : goal.invariant-loop-key
invariant-loop-key l = joined_others (others_view l.children.items) (others_named (children_in l.left.count l.left.entries.now)) ≡ others_named (children_in l.self.count l.self.entries.now)

abbrev pub decreases-loop-key : goal.decreases-loop-key
decreases-loop-key l = l.left.count
