use Rattle.std.proofs.Common.{◌≡◌, ◌+◌, drop}
use Rattle.tree_nodes.specs.Tree.{place}
use Rattle.tree_nodes.specs.NodeView.{others_view}
use Rattle.tree_nodes.proofs.node.place_of.Given as goal

abbrev pub invariant-loop-at : goal.invariant-loop-at
invariant-loop-at l = place l.key (others_view l.children) ≡ l.at + place l.key (others_view (drop l.at l.children))
