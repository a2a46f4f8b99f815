use Rattle.tree_loading.proofs.RootsMade.{filled_owned}
use Rattle.tree_loading.proofs.laws.a_filled_tree_has_few_nodes.Goals as goal

pub returns : goal.returns
returns c = filled_owned
