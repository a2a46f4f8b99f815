use Rattle.tree_nodes.proofs.DeleteChangesOneKey.{delete_tree_valid}
use Rattle.tree_nodes.proofs.laws.a_delete_stays_valid.Goals as goal

pub returns : goal.returns
returns c = delete_tree_valid
