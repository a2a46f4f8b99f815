use Rattle.std.proofs.Common.{ap}
use Rattle.tree_nodes.specs.NodeView.{others_view}
use Rattle.tree_loading.proofs.RowsMade.{first_nodes}
use Rattle.tree_loading.proofs.branch_row.BranchRow.new.Goals as goal

pub returns : goal.returns
returns c = λ others. first_nodes (others_view c.new.result.items) (others_view c.new-2.result.items) others (ap others_view c.new.ensures.items) (ap others_view c.new-2.ensures.items)
