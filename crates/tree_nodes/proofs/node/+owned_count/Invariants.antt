use Rattle.std.proofs.Common.{◌≡◌, ◌+◌, ◌-◌, ◌^◌, take}
use Rattle.std.specs.Prelude.{min}
use Rattle.tree_nodes.specs.Tree.{row_owned_nodes}
use Rattle.tree_nodes.specs.NodeView.{others_view}
use Rattle.tree_nodes.proofs.node.+owned_count.Given as goal

abbrev pub invariant-loop-child : goal.invariant-loop-child
invariant-loop-child l = l.count ≡ min (l.initial.count + row_owned_nodes (others_view (take l.child-index l.child-items))) (2 ^ 64 - 1)
