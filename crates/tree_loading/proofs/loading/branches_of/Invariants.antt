use Rattle.std.proofs.Common.{◌≡◌}
use Rattle.tree_nodes.specs.Tree.{Others}
use Rattle.tree_nodes.specs.NodeView.{others_view}
use Rattle.tree_loading.specs.Filled.{branches_of}
use Rattle.tree_loading.specs.Full.{rows_joined}
use Rattle.tree_loading.specs.Rows.{branches_with}
use Rattle.tree_loading.proofs.loading.branches_of.Given as goal

abbrev pub invariant-loop-key : goal.invariant-loop-key
invariant-loop-key l = (others : Others) → branches_with l.row others ≡ branches_of (rows_joined (others_view l.yielded) others)
