use Rattle.tree_nodes.proofs.PutChangesOneKey.{put_tree_pairs}
use Rattle.tree_nodes.proofs.laws.a_put_changes_one_key.Goals as goal

pub returns : goal.returns
returns c = put_tree_pairs
