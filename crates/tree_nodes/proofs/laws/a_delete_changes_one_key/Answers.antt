use Rattle.tree_nodes.proofs.DeleteChangesOneKey.{delete_tree_pairs}
use Rattle.tree_nodes.proofs.laws.a_delete_changes_one_key.Goals as goal

pub returns : goal.returns
returns c = delete_tree_pairs
