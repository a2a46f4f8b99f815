use Rattle.tree_nodes.proofs.PutChangesOneKey.{put_tree_valid}
use Rattle.tree_nodes.proofs.laws.a_put_stays_valid.Goals as goal

pub returns : goal.returns
returns c = put_tree_valid
