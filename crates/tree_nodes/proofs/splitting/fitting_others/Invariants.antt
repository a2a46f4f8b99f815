use Rattle.std.proofs.Common.{◌≡◌, ◌+◌, drop}
use Rattle.tree_nodes.specs.Splits.{fitting_others}
use Rattle.tree_nodes.specs.NodeView.{others_view}
use Rattle.tree_nodes.proofs.splitting.fitting_others.Given as goal

abbrev pub invariant-loop-child : goal.invariant-loop-child
invariant-loop-child l = record {
  count : l.count ≡ l.child-index;
  all : l.count + fitting_others l.room (others_view (drop l.child-index l.others)) ≡ fitting_others l.fn.room (others_view l.others);
}
