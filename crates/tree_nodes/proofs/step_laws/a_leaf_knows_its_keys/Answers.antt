use Rattle.tree_nodes.proofs.KeysKnown.{leaf_knows}
use Rattle.tree_nodes.proofs.step_laws.a_leaf_knows_its_keys.Goals as goal

pub returns : goal.returns
returns c = leaf_knows
