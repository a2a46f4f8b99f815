use Rattle.std.proofs.Common.{length}
use Rattle.tree_nodes.specs.NodeView.{others_view}
use Rattle.tree_loading.proofs.LevelsMade.{IsOnTheWay}
use Rattle.tree_loading.proofs.loading.filled_tree.Given as goal

abbrev pub invariant-loop-alloc : goal.invariant-loop-alloc
invariant-loop-alloc l = IsOnTheWay l.fn.pairs.items l.height (others_view l.level.items)

abbrev pub decreases-loop-alloc : goal.decreases-loop-alloc
decreases-loop-alloc l = length l.level.items
