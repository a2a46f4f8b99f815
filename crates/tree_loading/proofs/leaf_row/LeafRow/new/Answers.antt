use Rattle.std.proofs.Common.{ap}
use Rattle.tree_nodes.specs.NodeView.{others_view}
use Rattle.tree_loading.proofs.RowsMade.{first_pairs}
use Rattle.tree_loading.proofs.leaf_row.LeafRow.new.Goals as goal

pub returns : goal.returns
returns c = λ pairs. first_pairs (others_view c.new.result.items) c.new-2.result.items pairs (ap others_view c.new.ensures.items) c.new-2.ensures.items
