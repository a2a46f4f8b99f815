use Rattle.std.proofs.Common.{◌∙◌}
use Rattle.tree_nodes.specs.NodeView.{others_view}
use Rattle.tree_loading.proofs.RowsMade.{last_branch}
use Rattle.tree_loading.proofs.branch_row.BranchRow.finish.Goals as goal

pub returns : goal.returns
returns c = c.in_ok-close.ensures.row ∙ last_branch (others_view c.args.self.row.items) (others_view c.args.self.here.items) c.args.self.room
