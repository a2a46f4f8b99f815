use Rattle.std.proofs.Common.{◌≡◌, ◌≤◌, ◌+◌, length}
use Rattle.tree_nodes.specs.PageViews.{pairs_in}
use Rattle.cow_tree.proofs.opening_walk.count_pairs.Given as goal

abbrev pub invariant-loop-others : goal.invariant-loop-others
invariant-loop-others l = record {
  pairs : l.count + length (pairs_in l.left.count l.left.entries.now) ≡ length (pairs_in l.leaf.count l.leaf.entries.now);
  most : l.count + l.left.count ≤ 65535;
}

abbrev pub decreases-loop-others : goal.decreases-loop-others
decreases-loop-others l = l.left.count
