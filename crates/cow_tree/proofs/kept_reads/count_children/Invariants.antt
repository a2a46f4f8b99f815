use Rattle.std.proofs.Common.{◌≡◌, ◌≤◌, ◌+◌, length}
use Rattle.tree_nodes.specs.PageViews.{children_in}
use Rattle.cow_tree.proofs.kept_reads.count_children.Given as goal

abbrev pub invariant-loop-others : goal.invariant-loop-others
invariant-loop-others l = record {
  children : l.count + length (children_in l.left.count l.left.entries.now) ≡ length (children_in l.branch.count l.branch.entries.now);
  most : l.count + l.left.count ≤ 65535;
}

abbrev pub decreases-loop-others : goal.decreases-loop-others
decreases-loop-others l = l.left.count
